-- `pages::put_pages` meets its contract: what is put is what is printed of the outcome, in buffers that are long enough.
use mathlib.Core.Path.{refl}
use Rattle.promise.proofs.Promises.{least_buffers}
use Rattle.pages.proofs.put_pages.Goals as goal

pub returns : goal.returns
returns c = rw (least_buffers _ refl refl refl) at c.plan_and_put_pages.ensures
