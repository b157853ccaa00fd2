-- What a caller of a tree's readers shows.
use Rattle.std.proofs.Common.{◌≡◌, ℕ, ◌<◌, true, List, [], Contains, Option, Some, None, IsSome, IsSomeAnd, slice_get, refl, sym, subst}
use Rattle.std.proofs.lemmas.Option.{same_Some, slice_get_within, get_or_from_slice_get}
use Rattle.tda_model.specs.Schema.{Query, Level, Schema}
use Rattle.tda_model.specs.Cells.{cell_count, is_possible}
use Rattle.tda_model.specs.Groups.{kind_count, kind_cells, classes_of, class_cells}
use Rattle.tda_sets.proofs.Members.{Contains-passing}
use Rattle.tda_groups.specs.Order.{group_at}
use Rattle.tda_groups.specs.Tree.{Tree, IsTreeOf, IsGroupAt, kind_at, class_at}

some : (o : Option ℕ) (P : ℕ → Type 0) → IsSomeAnd o P → IsSome o
some (Some x) P h = refl
some None P h = absurd h

module _ (s : Schema) (l : Level) (t : Tree) (is_tree : IsTreeOf s l t) where
  -- a possible cell is one of group 0
  pub cell_known : (cell : ℕ) → cell < cell_count s → is_possible s cell ≡ true → Contains (group_at t.groups 0) cell
  cell_known cell low can = subst (λ xs. Contains xs cell) (sym is_tree.whole) (Contains-passing (is_possible s) (cell_count s) cell low can)

  pub kind_known : (kind : ℕ) → kind < kind_count s → IsSome (kind_at t kind)
  kind_known kind low = some (kind_at t kind) (λ g. slice_get t.groups g ≡ Some (kind_cells s kind)) (is_tree.each_kind kind low)

  pub class_known : (query class : ℕ) (q : Query) → slice_get l.queries query ≡ Some q → Contains (classes_of s q) class → IsSome (class_at t query class)
  class_known query class q at found = some (class_at t query class) (λ g. slice_get t.groups g ≡ Some (class_cells s q class)) (is_tree.each_class query class q at found)

  placed : (o : Option ℕ) (g : ℕ) (cells : List ℕ) → o ≡ Some g → IsSomeAnd o (λ h. slice_get t.groups h ≡ Some cells) → IsGroupAt t g cells
  placed None g cells is found = absurd found
  placed (Some h) g cells is found =
      let at : slice_get t.groups g ≡ Some cells = subst (λ k. slice_get t.groups k ≡ Some cells) (same_Some h g is) found in
      record { here = slice_get_within t.groups g cells at; members = get_or_from_slice_get t.groups g cells [] at }

  -- the number of a kind is that of the group of its cells
  pub kind_group_at : (kind g : ℕ) → kind_at t kind ≡ Some g → kind < kind_count s → IsGroupAt t g (kind_cells s kind)
  kind_group_at kind g is low = placed (kind_at t kind) g (kind_cells s kind) is (is_tree.each_kind kind low)

  -- and so is that of a class
  pub class_group_at : (query class g : ℕ) (q : Query) → class_at t query class ≡ Some g → slice_get l.queries query ≡ Some q → Contains (classes_of s q) class
      → IsGroupAt t g (class_cells s q class)
  class_group_at query class g q is at found = placed (class_at t query class) g (class_cells s q class) is (is_tree.each_class query class q at found)
