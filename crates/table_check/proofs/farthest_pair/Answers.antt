-- `farthest_pair` meets its contract: the pair with the number that is farthest off has its two levels by a division, and its columns are named from 1.
-- Assumes nothing.
use native.Mathlib.Nat.{lt_trans}
use borrow.Author.Rules.{sfits_of}
use mir.Facts.{to_z-of_z}
use mir.Syntax.{w64}
use Rattle.finite.proofs.Fits.{product_fits}
use Rattle.table_check.proofs.TableKeys.{pair_keyed, pair_farthest}
use Rattle.table_check.proofs.farthest_pair.Goals as goal

pub overflow_mul-s : goal.overflow_mul-s
overflow_mul-s c =
    product_fits (c.requires.checkable_table.levels_to _ (lt_trans c.requires.first_lt_second.0 c.requires.first_lt_second.1)) (c.shared_slice_known-4-1.given c.args.pair.second) tt

pub farthest_levels-farthest-requires : goal.farthest_levels-farthest-requires
farthest_levels-farthest-requires c =
    pair_keyed _ _ _ c.requires.checkable_table _ _ (lt_trans c.requires.first_lt_second.0 c.requires.first_lt_second.1) c.requires.first_lt_second.1

pub returns : goal.returns
returns c =
    pair_farthest _ _ _ c.requires.checkable_table c.args.pair.first c.args.pair.second c.requires.first_lt_second.1
    (to_z-of_z {w = w64} (sfits_of c.struct_told-1.given.1.1.0.1))
    c.requires.ordinal_value
    c.farthest_levels-farthest.ensures
