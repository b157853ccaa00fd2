-- The demo's persons: whom the words that are taken one after another make.
use Rattle.std.specs.Prelude.{codes, ℕ, zero, suc, ◌+◌, ◌*◌, ◌/◌, ◌%◌, ◌==◌, ◌&&◌, ◌||◌, Bool, List, [], ◌∷◌, ◌++◌, length, map, replicate, if◌then◌else◌}
use Rattle.std.specs.Int.{to_le_bytes, w64}
use Rattle.std.specs.List.{flat_map, range_with_len}
use Rattle.rand_chacha.specs.ChaCha.{key_of, word_at}
use Rattle.tda_io.specs.Csv.{Row}
use Rattle.tda_model.specs.Schema.{Schema}
use Rattle.tda_model.specs.Cells.{value_at}
use Rattle.tda_demo.specs.Facilities.{has_dormitory, has_prison}
use Rattle.tda_demo.specs.Names.{value_name}

-- the number as eight bytes, least byte first, and 24 zero bytes
abbrev pub seed : ℕ → List ℕ
seed number = to_le_bytes w64 number ++ replicate 24 0

-- the word at a place of the seed's stream (ChaCha20, RFC 8439, sections 2.3 and 2.4)
abbrev pub word : ℕ → ℕ → ℕ
word number place = word_at 10 (key_of (seed number)) 0 place

-- a person's cell: kinds house, dorm, prison; sexes f, m; ages minor, adult
abbrev pub cell : ℕ → ℕ → ℕ → ℕ
cell kind sex age = kind * 4 + sex * 2 + age

abbrev pub drawn_kind : Bool → Bool → ℕ → ℕ
drawn_kind dormitory prison v =
    if (v % 8 == 0) && dormitory then 1 else if (v % 8 == 1) && prison then 2 else 0

abbrev pub drawn_sex : ℕ → ℕ
drawn_sex v = if v / 8 % 2 == 0 then 0 else 1

abbrev pub drawn_age : ℕ → ℕ → ℕ
drawn_age kind v = if (kind == 2) || (v / 16 % 2 == 1) then 1 else 0

-- the person that a word makes in a block
abbrev pub drawn : Bool → Bool → ℕ → ℕ
drawn dormitory prison v =
    cell (drawn_kind dormitory prison v) (drawn_sex v) (drawn_age (drawn_kind dormitory prison v) v)

-- a woman in each dormitory and a man in each prison, both adults
abbrev pub residents : Bool → Bool → List ℕ
residents dormitory prison = (if dormitory then cell 1 0 1 ∷ [] else []) ++ (if prison then cell 2 1 1 ∷ [] else [])

-- The words are a list without an end, here as a function of the place. A block takes one word, and then so many more.
abbrev pub further : (ℕ → ℕ) → ℕ → ℕ
further words place = words place % 16

-- the place of the first word that a block takes
abbrev pub first_word : (ℕ → ℕ) → ℕ → ℕ
first_word words zero = 0
first_word words (suc i) = first_word words i + 1 + further words (first_word words i)

abbrev pub drawn_persons : (ℕ → ℕ) → ℕ → List ℕ
drawn_persons words i =
    map (λ place. drawn (has_dormitory i) (has_prison i) (words place))
    (range_with_len (first_word words i + 1) (further words (first_word words i)))

-- the cells of a block's persons, by its number
abbrev pub block_persons : (ℕ → ℕ) → ℕ → List ℕ
block_persons words i = residents (has_dormitory i) (has_prison i) ++ drawn_persons words i

-- a person in a block: its code, and the names of the cell's values
abbrev pub person_row : Schema → List ℕ → ℕ → Row
person_row s code c = code ∷ map (λ a. value_name s a (value_at s c a)) (range_with_len 0 (length s.attributes))

-- those of the first blocks, with these codes
abbrev pub person_rows : Schema → (ℕ → ℕ) → (ℕ → List ℕ) → ℕ → List Row
person_rows s words code count =
    flat_map (λ i. map (person_row s (code i)) (block_persons words i)) (range_with_len 0 count)

-- `block`, and then the names of the attributes
abbrev pub header : Schema → Row
header s = codes "block" ∷ map (λ a. a.name) s.attributes
