-- The sizes of fits by their parts.
use Rattle.std.proofs.Common.{◌≡◌, ℕ, ◌+◌, length, Some, None, ap, ◌∙◌}
use Rattle.tda_model.specs.Schema.{Schema}
use Rattle.tda_model.specs.Cells.{possible_cells}
use Rattle.tda_model.specs.Groups.{kind_count}
use Rattle.tda_model.specs.Spine.{Spine, level_of, units_at, children_of}
use Rattle.tda_model.specs.Sizes.{fit_size, root_fit_size, split_size, groups_at}

pub root_parts : (s : Schema) (sp : Spine) (states kinds possible groups : ℕ) → states ≡ length (units_at sp 1) → kinds ≡ kind_count s → possible ≡ length (possible_cells s) → groups ≡ groups_at s 0
    → root_fit_size states kinds possible groups ≡ fit_size s sp None
root_parts s sp states kinds possible groups a b c d =
    ap (λ n. root_fit_size n kinds possible groups) a
    ∙ ap (λ n. root_fit_size (length (units_at sp 1)) n possible groups) b
    ∙ ap (λ n. root_fit_size (length (units_at sp 1)) (kind_count s) n groups) c
    ∙ ap (root_fit_size (length (units_at sp 1)) (kind_count s) (length (possible_cells s))) d

pub split_parts : (s : Schema) (sp : Spine) (p children possible groups : ℕ) → children ≡ length (children_of sp p) → possible ≡ length (possible_cells s) → groups ≡ groups_at s (level_of sp p + 1)
    → split_size children possible groups ≡ fit_size s sp (Some p)
split_parts s sp p children possible groups a b c =
    ap (λ n. split_size n possible groups) a
    ∙ ap (λ n. split_size (length (children_of sp p)) n groups) b
    ∙ ap (split_size (length (children_of sp p)) (length (possible_cells s))) c
