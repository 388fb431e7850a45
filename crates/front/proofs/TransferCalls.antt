-- The call of an order is the one that its block asks for.
use mathlib.Core.Bool.{Bool, true, false}
use mathlib.Core.List.{List}
use mathlib.Core.Path.{◌≡◌, refl}
use Prim.Native.Nat.{ℕ}
use lib.Dec.{eqb}
use Rattle.std.specs.Prelude.{if◌then◌else◌}
use Rattle.desk.specs.Calls.{read, write, update}
use Rattle.front.specs.declared.requests.Order.{Order}
use Rattle.front.specs.declared.requests.Function.TheVariants.{Read, Write, Update}
use Rattle.front.specs.Blocks.{function_of}
use Rattle.front.specs.Front.{transfer_asked}
use Rattle.front.specs.Code.Orders.{order_of, call_for, transfer_call}

module _ (caller : ℕ) (o : Order) (bs : List ℕ) where
  picked : (x y : Bool) → call_for (if x then Read else if y then Write else Update) caller o bs
      ≡ (if x then read caller o.lun o.sel o.num o.formatted bs
      else if y then write caller o.lun o.sel o.num o.formatted bs
      else update caller o.lun o.sel o.num o.formatted bs)
  picked true y = refl
  picked false true = refl
  picked false false = refl

pub order_asked : (caller : ℕ) (b bs : List ℕ) → transfer_call caller (order_of b) bs ≡ transfer_asked caller b bs
unfolding order_of transfer_asked
order_asked caller b bs = picked caller (order_of b) bs (eqb (function_of b) 0x01) (eqb (function_of b) 0x02)
