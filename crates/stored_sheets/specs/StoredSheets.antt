-- A sheet in a stored call: the numbers `V v1 .. vV A B C c1 .. cC` of a list. Its level list is the V bytes v1 .. vV, and its table is A x B bytes, c1 .. cC over and
-- over. What the programs have no room for is cut off: level counts after the 255th, bytes after the 65,536th, and numbers after the 4,096th.
use Rattle.std.specs.Prelude.{List, ℕ, ◌+◌, ◌*◌, min, get_or}
use Rattle.stored_sheets.specs.declared.StoredSheet.{StoredSheet}

-- the sheet whose numbers stand in the list from a place on
unfoldable pub stored_sheet : List ℕ → ℕ → StoredSheet
stored_sheet list at =
    let counts = min (get_or list at 0) 255 in
    let shape = at + 1 + counts in
    record {
      levels = at + 1;
      counts = counts;
      bytes = min (get_or list shape 0 * get_or list (shape + 1) 0) 65536;
      cells = shape + 3;
      given = min (get_or list (shape + 2) 0) 4096;
    }
