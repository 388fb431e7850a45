-- Table 1-1 of the manual, cell by cell, and the cells in which the rule of RULES, Modes differs from it.
use Rattle.std.specs.Prelude.{List, [], ◌∷◌, ◌++◌, Bool, true, false, not, ◌≡◌, refl}
use Rattle.lists.specs.Lists.{lists_open}
use Rattle.lists.specs.Parts.{parts_open}
use Rattle.luns.specs.declared.Mode.{Mode}
use Rattle.luns.specs.declared.Mode.TheVariants.{Pr, Er, Pw, Ew, Prpw, Prew, Erpw, Erew}
use Rattle.luns.specs.Modes.{compatible, modes_open}

-- the existing assignments, as columns in the table's order; a wanted mode and its cells, as a row, where an X, starred or not, is true
columns : List Mode
columns = Pr ∷ Er ∷ Pw ∷ Ew ∷ Prpw ∷ Prew ∷ Erpw ∷ Erew ∷ []

pub record Row : Type 0 where
  pub mode : Mode
  pub cells : List Bool

row : Mode → List Bool → Row
row m l = record { mode = m; cells = l }

x : Bool
x = true

o : Bool
o = false

pub table : List Row
table =
    row Pr (x ∷ x ∷ x ∷ x ∷ x ∷ x ∷ o ∷ o ∷ [])
    ∷ row Er (o ∷ x ∷ x ∷ x ∷ o ∷ o ∷ o ∷ o ∷ [])
    ∷ row Pw (x ∷ x ∷ x ∷ o ∷ x ∷ o ∷ x ∷ o ∷ [])
    ∷ row Ew (x ∷ x ∷ o ∷ o ∷ o ∷ o ∷ o ∷ o ∷ [])
    ∷ row Prpw (x ∷ o ∷ x ∷ o ∷ x ∷ o ∷ o ∷ o ∷ [])
    ∷ row Prew (x ∷ o ∷ o ∷ o ∷ o ∷ o ∷ o ∷ o ∷ [])
    ∷ row Erpw (o ∷ o ∷ x ∷ o ∷ o ∷ o ∷ o ∷ o ∷ [])
    ∷ row Erew (o ∷ o ∷ o ∷ x ∷ o ∷ o ∷ o ∷ o ∷ [])
    ∷ []

-- a cell, with what the table says there
pub record Cell : Type 0 where
  pub wanted : Mode
  pub existing : Mode
  pub allowed : Bool

pub cell : Mode → Mode → Bool → Cell
cell a b c = record { wanted = a; existing = b; allowed = c }

differ : Bool → Bool → Bool
differ true b = not b
differ false b = b

listed : Bool → Cell → List Cell
listed true c = c ∷ []
listed false c = []

across : Mode → List Mode → List Bool → List Cell
across a [] bs = []
across a (m ∷ ms) [] = cell a m false ∷ across a ms []
across a (m ∷ ms) (b ∷ bs) = listed (differ (compatible a m) b) (cell a m b) ++ across a ms bs

pub differing : List Row → List Cell
differing [] = []
differing (r ∷ rs) = across r.mode columns r.cells ++ differing rs

-- Of the 64 cells three differ, and in each the table allows what the rule refuses
abbrev pub TableDiffers : Type 0
TableDiffers = differing table ≡ cell Pr Er true ∷ cell Er Er true ∷ cell Erew Ew true ∷ []

pub table_differs : TableDiffers
unfolding differing table across columns row listed differ cell x o lists_open parts_open modes_open
table_differs = refl
