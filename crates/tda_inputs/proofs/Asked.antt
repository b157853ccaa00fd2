-- Files that are asked for one after the other.
use Rattle.std.proofs.Common.{◌≡◌, ◌<◌, ◌≤◌, ◌+◌, ◌∙◌, ◌++◌, ◌∷◌, [], ℕ, List, length, take, refl, sym, ap, arith, Option, Some, None, option_map, slice_index_or, append_assoc}
use Rattle.std.proofs.lemmas.List.{append-nil, take_more, take_all, length-map}
use Rattle.std.proofs.lemmas.Option.{slice_get-map, slice_get_within, get_or_from_slice_get}
use Rattle.tda_io.specs.Outside.{Shelf, asks}
use Rattle.tda_command.specs.Words.{reads_of, read_names, pairs_after, value_or_empty}
use Rattle.tda_inputs.specs.Asked.{AsksPrefix, asks_all}
use Rattle.tda_inputs.specs.Files.{name_of, place_of_file, IsRead}
use Rattle.tda_inputs.specs.Reading.{path_of}
use Rattle.tda_inputs.specs.declared.reading.File.{File}

-- the first n of these names were asked for
pub record AsksFirst (names : List (List ℕ)) (n : ℕ) (old new : Option Shelf) : Type 0 where
  pub within : n ≤ length names
  pub asked : new ≡ option_map (asks_all (take n names)) old

asks_none : (old : Option Shelf) → old ≡ option_map (asks_all []) old
asks_none None = refl
asks_none (Some s) = ap (λ ns. Some (record s { asked = ns })) (sym (append-nil s.asked))

pub asks_no_name : (names : List (List ℕ)) (old : Option Shelf) → AsksFirst names 0 old old
asks_no_name names old = record { within = omega arith; asked = asks_none old }

asks_next : (names : List (List ℕ)) (n : ℕ) (old : Option Shelf) → n < length names
    → option_map (asks (slice_index_or names n [])) (option_map (asks_all (take n names)) old) ≡ option_map (asks_all (take (n + 1) names)) old
asks_next names n None h = refl
asks_next names n (Some s) h = ap (λ ns. Some (record s { asked = ns }))
    (append_assoc s.asked (take n names) (slice_index_or names n [] ∷ []) ∙ ap (λ xs. s.asked ++ xs) (sym (take_more names n [] h)))

-- one more name
pub asks_more : (names : List (List ℕ)) (n : ℕ) (old mid new : Option Shelf) → n < length names → AsksFirst names n old mid
    → new ≡ option_map (asks (slice_index_or names n [])) mid → AsksFirst names (n + 1) old new
asks_more names n old mid new h before is = record {
  within = omega arith;
  asked = is ∙ ap (option_map (asks (slice_index_or names n []))) before.asked ∙ asks_next names n old h;
}

-- a file that the command reads is found at the value of its name
pub path_at : (words : List (List ℕ)) (f : File) → IsRead words f → path_of words f ≡ value_or_empty (pairs_after words) (name_of f)
path_at words f is =
    let value = value_or_empty (pairs_after words) in
    get_or_from_slice_get (reads_of words) (place_of_file f) (value (name_of f)) [] (slice_get-map value (read_names words) (place_of_file f) ∙ ap (option_map value) is)

-- and is one of those that it reads
pub file_within : (words : List (List ℕ)) (f : File) → IsRead words f → place_of_file f < length (reads_of words)
file_within words f is =
    let same : length (reads_of words) ≡ length (read_names words) = length-map (read_names words) (value_or_empty (pairs_after words)) in
    omega (arith, slice_get_within (read_names words) (place_of_file f) (name_of f) is, same)

-- one more file of the command
pub file_asks : (words : List (List ℕ)) (f : File) (old mid new : Option Shelf) → IsRead words f
    → AsksFirst (reads_of words) (place_of_file f) old mid → new ≡ option_map (asks (path_of words f)) mid → AsksFirst (reads_of words) (place_of_file f + 1) old new
file_asks words f old mid new is before asked = asks_more _ _ old mid new (file_within words f is) before asked

-- all names are the first ones of them
pub asks_whole : (names : List (List ℕ)) (old new : Option Shelf) → new ≡ option_map (asks_all names) old → AsksPrefix names old new
asks_whole names old new is = record {
  count = length names;
  within = omega arith;
  asked = is ∙ ap (λ ns. option_map (asks_all ns) old) (sym (take_all (length names) names (omega arith)));
}

-- the first ones of names
pub asks_first : (names : List (List ℕ)) (n : ℕ) (old new : Option Shelf) → AsksFirst names n old new → AsksPrefix names old new
asks_first names n old new first = record { count = n; within = first.within; asked = first.asked }
