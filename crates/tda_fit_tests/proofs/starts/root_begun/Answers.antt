-- What is read off a circulation of the nation's fit.
use Rattle.std.proofs.Common.{◌≡◌, ◌++◌, ◌*◌, ℕ, List, length, drop, take, sym, ap, ◌∙◌, subst}
use Rattle.std.proofs.Math.Seq.{take-append_seam}
use Rattle.tda_model.specs.Groups.{kind_count}
use Rattle.tda_model.specs.Spine.{units_at}
use Rattle.tda_flow.specs.Network.{arc_count}
use Rattle.tda_fitnet.specs.FitNetwork.{flow_counts, flow_shares}
use Rattle.tda_fit_tests.specs.Begun.{IsBegun}
use Rattle.tda_fit_tests.proofs.Begun.{begun}
use Rattle.tda_fit_tests.proofs.starts.root_begun.Goals as goal

-- a list that was written whole
taken : (n : ℕ) (xs ys : List ℕ) → length xs ≡ n → take n (xs ++ ys) ≡ xs
taken n xs ys e = subst (λ k. take k (xs ++ ys) ≡ xs) e (take-append_seam xs ys)

shares_size : (states list : List ℕ) (k kinds len total : ℕ) → list ≡ states → k ≡ kinds → len ≡ length list * k → total ≡ length states * kinds → total ≡ len
shares_size states list k kinds len total a b c d = d ∙ sym (ap (λ xs. length xs * kinds) a) ∙ sym (ap (λ n. length list * n) b) ∙ sym c

pub returns : goal.returns
returns c =
    let s = c.args.schema.now in
    let sp = c.args.spine.now in
    let inv = c.args.inv.now in
    let f = c.in_ok-fit.fit in
    let flow = c.root_start.new.flow in
    let arcs : length flow ≡ c.in_ok-flow.flow.len = c.root_start.ensures.count ∙ sym (c.in_ok-flow.ensures.len ∙ c.arcs.ensures.value ∙ ap arc_count c.net.ensures.value) in
    let read = c.deref.ensures.value ∙ taken c.in_ok-flow.flow.len flow _ arcs in
    let read_again = c.deref-2.ensures.value ∙ taken c.in_ok-flow.flow.len flow _ arcs in
    let is = begun s sp inv c.args.m.now c.requires.joined c.args.tree.now.groups c.in_ok-fit.ensures.tables f c.in_ok-fit.ensures.fit flow c.to_counts.new.counts c.to_shares.new.shares
    c.root_start.ensures (c.to_counts.ensures ∙ ap (flow_counts f) read) (c.to_shares.ensures ∙ ap (flow_shares f) read_again) in
    let counts : length c.to_counts.new.counts ≡ c.in_ok-counts.counts.len = is.size ∙ sym (c.in_ok-counts.ensures.len ∙ c.cells.ensures.count) in
    let kinds = c.from.ensures ∙ c.kinds.ensures.count in
    let shares : length c.to_shares.new.shares ≡ c.in_ok-shares.shares.len =
    shares_size (units_at sp 1) c.at_level-states.result.now c.from.result (kind_count s) c.in_ok-shares.shares.len (length c.to_shares.new.shares) c.at_level-states.ensures kinds c.in_ok-shares.ensures.len is.listed.size in
    let rest_of_shares = drop (length c.to_shares.new.shares) c.in_ok-shares.shares.items in
    let rest_of_counts = drop (length c.to_counts.new.counts) c.in_ok-counts.counts.items in
    subst (λ xs. IsBegun s sp inv xs (take c.in_ok-shares.shares.len (c.to_shares.new.shares ++ rest_of_shares))) (sym (taken c.in_ok-counts.counts.len c.to_counts.new.counts rest_of_counts counts))
    (subst (IsBegun s sp inv c.to_counts.new.counts) (sym (taken c.in_ok-shares.shares.len c.to_shares.new.shares rest_of_shares shares)) is)
