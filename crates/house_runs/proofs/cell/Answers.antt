-- `house_runs::cell` meets its contract: each arm's constant is that of the table with the arm's number.
-- Assumes nothing.
use native.Mathlib.Omega.{arith}
use Rattle.house.specs.House.{house_of, house101, house102, house103, house104}
use Rattle.house.proofs.Passing.{house_at, last_house}
use Rattle.house_runs.proofs.cell.Goals as goal

pub bounds-run : goal.bounds-run
unfolding house_of house101 house102 house103 house104
bounds-run c = rw (house_at _ 101 c.in-101.is) at c.requires.run_bound.0

pub offset_bounds-run : goal.offset_bounds-run
offset_bounds-run c = omega (arith, bounds-run c)

pub bounds-column : goal.bounds-column
unfolding house_of house101 house102 house103 house104
bounds-column c = rw (house_at _ 101 c.in-101.is) at c.requires.run_bound.1

pub bounds-run-in-102 : goal.bounds-run-in-102
unfolding house_of house101 house102 house103 house104
bounds-run-in-102 c = rw (house_at _ 102 c.in-102.is) at c.requires.run_bound.0

pub offset_bounds-run-in-102 : goal.offset_bounds-run-in-102
offset_bounds-run-in-102 c = omega (arith, bounds-run-in-102 c)

pub bounds-column-in-102 : goal.bounds-column-in-102
unfolding house_of house101 house102 house103 house104
bounds-column-in-102 c = rw (house_at _ 102 c.in-102.is) at c.requires.run_bound.1

pub bounds-run-in-103 : goal.bounds-run-in-103
unfolding house_of house101 house102 house103 house104
bounds-run-in-103 c = rw (house_at _ 103 c.in-103.is) at c.requires.run_bound.0

pub offset_bounds-run-in-103 : goal.offset_bounds-run-in-103
offset_bounds-run-in-103 c = omega (arith, bounds-run-in-103 c)

pub bounds-column-in-103 : goal.bounds-column-in-103
unfolding house_of house101 house102 house103 house104
bounds-column-in-103 c = rw (house_at _ 103 c.in-103.is) at c.requires.run_bound.1

pub bounds-run-in_default : goal.bounds-run-in_default
unfolding house_of house101 house102 house103 house104
bounds-run-in_default c = rw (house_at _ 104 (last_house _ c.requires.house_number c.in_default.in_default-own.rest)) at c.requires.run_bound.0

pub offset_bounds-run-in_default : goal.offset_bounds-run-in_default
offset_bounds-run-in_default c = omega (arith, bounds-run-in_default c)

pub bounds-column-in_default : goal.bounds-column-in_default
unfolding house_of house101 house102 house103 house104
bounds-column-in_default c = rw (house_at _ 104 (last_house _ c.requires.house_number c.in_default.in_default-own.rest)) at c.requires.run_bound.1

pub returns-in-101 : goal.returns-in-101
unfolding house_of house101 house102 house103 house104
returns-in-101 c = rw (house_at _ 101 c.in-101.is)

pub returns-in-102 : goal.returns-in-102
unfolding house_of house101 house102 house103 house104
returns-in-102 c = rw (house_at _ 102 c.in-102.is)

pub returns-in-103 : goal.returns-in-103
unfolding house_of house101 house102 house103 house104
returns-in-103 c = rw (house_at _ 103 c.in-103.is)

pub returns-in_default : goal.returns-in_default
unfolding house_of house101 house102 house103 house104
returns-in_default c = rw (house_at _ 104 (last_house _ c.requires.house_number c.in_default.in_default-own.rest))
