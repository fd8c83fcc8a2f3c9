-- `page_report::put_all_pages` meets its contract. The invariant: so many pages are put, of 4,800 bytes each.
use mathlib.Core.Path.{◌≡◌}
use mathlib.Core.List.{flat_map}
use Prim.Native.Nat.{◌*◌}
use Rattle.finite.specs.Lists.{from}
use Rattle.buffers.specs.Put.{Put}
use Rattle.page_text.specs.Pages.{page_text}
use Rattle.given_sheet.specs.Given.{given_sheet}
use Rattle.page_report.proofs.put_all_pages.Given as goal

abbrev pub invariant-loop-before : goal.invariant-loop-before
invariant-loop-before l =
    (l.place ≡ 4800 * l.before) × Put l.initial.buf 0 (flat_map (page_text (given_sheet l.runs l.columns l.levels l.table)) (from 1 l.before)) l.buf l.place
