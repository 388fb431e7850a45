-- The modes and selectors that numbers name, if they do.
use Rattle.std.specs.Prelude.{if◌then◌else◌, ℕ, eqb, ltb, Result, Ok, Err}
use Rattle.luns.specs.declared.Mode.{Mode}
use Rattle.luns.specs.declared.modes.UnknownMode.{UnknownMode}
use Rattle.luns.specs.declared.places.Selector.{Selector}
use Rattle.luns.specs.declared.places.Selector.TheVariants.{Next, Current, Prior, Random}
use Rattle.luns.specs.declared.places.UnknownSelector.{UnknownSelector}
use Rattle.luns.specs.Modes.{mode_of}

-- the mode of a number up to 7
unfoldable pub mode_or : ℕ → Result Mode UnknownMode
mode_or k = if ltb 7 k then Err (record {}) else Ok (mode_of k)

-- the selector of a number up to 3
unfoldable pub selector_or : ℕ → Result Selector UnknownSelector
selector_or k =
    if eqb k 0 then Ok Next else if eqb k 1 then Ok Current else if eqb k 2 then Ok Prior else if eqb k 3 then Ok Random
    else Err (record {})
