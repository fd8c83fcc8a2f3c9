-- `house::width` meets its contract: each arm's constant is that of the table with the arm's number.
-- Assumes nothing.
use Rattle.house.specs.House.{house_of, house101, house102, house103, house104}
use Rattle.house.proofs.Passing.{house_at, last_house}
use Rattle.house.proofs.width.Goals as goal

pub returns-in-101 : goal.returns-in-101
unfolding house_of house101 house102 house103 house104
returns-in-101 c = rw (house_at _ 101 c.in-101.is)

pub returns-in-102 : goal.returns-in-102
unfolding house_of house101 house102 house103 house104
returns-in-102 c = rw (house_at _ 102 c.in-102.is)

pub returns-in-103 : goal.returns-in-103
unfolding house_of house101 house102 house103 house104
returns-in-103 c = rw (house_at _ 103 c.in-103.is)

pub returns-in_default : goal.returns-in_default
unfolding house_of house101 house102 house103 house104
returns-in_default c = rw (house_at _ 104 (last_house _ c.requires c.in_default.in_default-own.rest))
