-- The text of a spine is accepted, and gives the spine.
use Rattle.std.proofs.Common.{◌≡◌, ℕ, ◌<◌, true, List, [], ◌∷◌, ◌++◌, length, map, Option, Some, None, Ok, refl, ◌∙◌, arith}
use Rattle.std.specs.List.{flat_map, AllByRecursion}
use Rattle.csv.specs.Reading.{strip_bom}
use Rattle.tda_io.specs.Texts.{name_test, row_text}
use Rattle.tda_io.proofs.PlainNames.{plain_name}
use Rattle.tda_model.specs.Schema.{Schema}
use Rattle.tda_model.specs.Spine.{Spine, IsUnit, level_of, parent_of, code_of, nation_of, unit_numbers}
use Rattle.tda_model.proofs.Sums.{each_range}
use Rattle.tda_spine.proofs.Lookups.{parent_tells}
use Rattle.tda_spine.specs.Judged.{format, read}
use Rattle.tda_demo.specs.Names.{level_name}
use Rattle.tda_demo.specs.SpineText.{parent_code, unit_row, unit_rows, header, spine_text}
use Rattle.tda_demo_laws.proofs.OpenRows.{text_judged, IsOpenRow, IsPlainField}
use Rattle.tda_demo_laws.proofs.SpineBack.{judged_back, IsWritable}

each_map : {X Y : Type 0} (P : Y → Type 0) (f : X → Y) (xs : List X) → AllByRecursion (λ x. P (f x)) xs → AllByRecursion P (map f xs)
each_map P f [] h = tt
each_map P f (x ∷ xs) h = (h.0, each_map P f xs h.1)

plain_of_name : (most : ℕ) (name : List ℕ) → name_test most name ≡ true → IsPlainField name
plain_of_name most name h = let p = plain_name most name h in p.plain

module _ (s : Schema) (sp : Spine) (w : IsWritable s sp) (named : (l : ℕ) → l < sp.depth → name_test 32 (level_name s l) ≡ true) where
  plain_parent : (u : ℕ) → IsUnit sp u → IsPlainField (parent_code sp u)
  plain_parent u here = by (parent_of sp u) (λ p e. w.sound.coded p (parent_here u p here e))
    where
      parent_here : (v p : ℕ) → IsUnit sp v → parent_of sp v ≡ Some p → IsUnit sp p
      parent_here v p there e = let has = parent_tells sp v (nation_of sp) p w.sound.tree there e in has.here

      by : (o : Option ℕ) → ((p : ℕ) → o ≡ Some p → name_test 16 (code_of sp p) ≡ true) → IsPlainField (elim o as (λ _. List ℕ) [ Some p ↦ code_of sp p | None ↦ [] ])
      by None h = refl
      by (Some p) h = plain_of_name 16 (code_of sp p) (h p refl)

  open_rows : AllByRecursion IsOpenRow (unit_rows s sp)
  open_rows =
      each_map IsOpenRow (unit_row s sp) (unit_numbers sp) (each_range (λ u. IsOpenRow (unit_row s sp u)) 0 (length sp.units) (λ u lo hi.
      let here : IsUnit sp u = omega (arith, hi) in record {
        wide = omega arith;
        fields = (plain_of_name 16 (code_of sp u) (w.sound.coded u here), (plain_of_name 32 (level_name s (level_of sp u)) (named (level_of sp u) (w.sound.tree.within u here)), (plain_parent u here, tt)));
      }))

  plain_header : IsOpenRow header
  plain_header = record { wide = omega arith; fields = (refl, (refl, (refl, tt))) }

  no_mark : (rest : List ℕ) → strip_bom (row_text header ++ rest) ≡ row_text header ++ rest
  unfolding strip_bom
  no_mark rest = refl

  widths : AllByRecursion (λ r. length r ≡ 3) (unit_rows s sp)
  widths = each_map (λ r. length r ≡ 3) (unit_row s sp) (unit_numbers sp) (each_range _ 0 (length sp.units) (λ u lo hi. refl))

  pub spine_back : read s (spine_text s sp) ≡ Ok sp
  spine_back =
      text_judged (format s) header (unit_rows s sp) (plain_header, open_rows) widths (no_mark (flat_map row_text (unit_rows s sp)))
      ∙ judged_back s sp w
