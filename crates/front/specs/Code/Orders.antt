-- What a transfer's block asks for, beside its part.
use Rattle.std.specs.Prelude.{if◌then◌else◌, List, ℕ, eqb}
use Rattle.desk.specs.Calls.{Call, read, write, update}
use Rattle.front.specs.declared.requests.Order.{Order}
use Rattle.front.specs.declared.requests.Function.{Function}
use Rattle.front.specs.declared.requests.Function.TheVariants.{Read, Write, Update}
use Rattle.front.specs.Blocks.{function_of, options_of, lun_in, number_in, selector_in, formatted_in}

-- the transfer of a function code: read, write, or else update
abbrev pub transfer_of : ℕ → Function
transfer_of f = if eqb f 0x01 then Read else if eqb f 0x02 then Write else Update

unfoldable pub order_of : List ℕ → Order
order_of b = record {
  function = transfer_of (function_of b);
  lun = lun_in b;
  sel = selector_in (options_of b);
  num = number_in b;
  formatted = formatted_in (options_of b);
}

-- the call that is asked for
abbrev pub call_for : Function → ℕ → Order → List ℕ → Call
call_for Read caller o bs = read caller o.lun o.sel o.num o.formatted bs
call_for Write caller o bs = write caller o.lun o.sel o.num o.formatted bs
call_for Update caller o bs = update caller o.lun o.sel o.num o.formatted bs

abbrev pub transfer_call : ℕ → Order → List ℕ → Call
transfer_call caller o bs = call_for o.function caller o bs
