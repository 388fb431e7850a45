use mathlib.Core.Path.{refl}
use Rattle.front.specs.Code.Orders.{order_of}
use Rattle.front.proofs.requests.order_of.Goals as goal

pub returns : goal.returns
unfolding order_of
returns c =
    rw (c.transfer_of.ensures, c.function.ensures, c.lun.ensures, c.selector.ensures, c.number.ensures, c.formatted.ensures, c.options-w.ensures.0) refl
