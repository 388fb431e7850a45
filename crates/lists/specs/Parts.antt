-- Bytes, words, sectors and other parts of an image. Defines RULES, Words and numbers (words); The volume.
use Rattle.std.specs.Prelude.{List, [], ◌∷◌, ◌++◌, Bool, ℕ, ◌+◌, ◌*◌, ◌/◌, ◌%◌, ◌-◌, get_or, take, drop, length, replicate, eqb}
use Rattle.lists.specs.Lists.{all}

-- the byte at i; RULES, Words and numbers: a word is two bytes, the higher one first; the two bytes of a word
abbrev pub byte : List ℕ → ℕ → ℕ
byte b i = get_or b i 0

abbrev pub word : List ℕ → ℕ → ℕ
word b i = 256 * byte b i + byte b (i + 1)

abbrev pub bytes2 : ℕ → List ℕ
bytes2 w = w / 256 ∷ w % 256 ∷ []

-- RULES, Words and numbers: a long number is four bytes, the highest first; the four bytes of one
abbrev pub long : List ℕ → ℕ → ℕ
long b i = 65536 * word b i + word b (i + 2)

abbrev pub bytes4 : ℕ → List ℕ
bytes4 v = bytes2 (v / 65536) ++ bytes2 (v % 65536)

-- n bytes from i on; the same list with b written at i; its first bytes replaced by b
unfoldable pub part : ℕ → ℕ → List ℕ → List ℕ
part i n b = take n (drop i b)

unfoldable pub put : ℕ → List ℕ → List ℕ → List ℕ
put i b img = take i img ++ (b ++ drop (i + length b) img)

unfoldable pub over : List ℕ → List ℕ → List ℕ
over b old = b ++ drop (length b) old

-- RULES, The volume: sector s is the 256 bytes from byte 256 times s on; read, and written
unfoldable pub sector : ℕ → List ℕ → List ℕ
sector s img = part (256 * s) 256 img

unfoldable pub put_sector : ℕ → List ℕ → List ℕ → List ℕ
put_sector s b img = put (256 * s) b img

-- n zeros; b with zeros after it, n bytes in all
unfoldable pub blanks : ℕ → List ℕ
blanks n = replicate n 0

unfoldable pub filled : ℕ → List ℕ → List ℕ
filled n b = b ++ blanks (n - length b)

-- RULES, Words and numbers: n bytes in sectors, rounded up
unfoldable pub in_sectors : ℕ → ℕ
in_sectors n = (n + 255) / 256

abbrev pub zeros : List ℕ → Bool
zeros = all (λ x. eqb x 0)

-- RULES, The volume: T is the image's length / 256
unfoldable pub sectors : List ℕ → ℕ
sectors img = length img / 256

unfoldable pub parts_open : Unit {0}
unfolding part put over sector put_sector blanks filled in_sectors sectors
parts_open = tt
