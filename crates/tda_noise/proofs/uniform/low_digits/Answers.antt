use Rattle.std.proofs.Common.{◌≡◌, ◌<◌, ◌^◌, ◌∙◌, ◌∷◌, max, arith, ap, sym}
use Rattle.tda_noise.specs.Draws.{words_for}
use Rattle.std.specs.Int.{div_ceil}
use Rattle.tda_noise.proofs.Digits.{has_none, has_more, has_piece, no_piece, more_whole, more_fits, words_are, words_few, counts_none}
use Rattle.tda_noise.proofs.uniform.low_digits.Goals as goal

pub loop-i-init : goal.loop-i-init
loop-i-init g c = has_none _ _

pub returns-in_err-word-clause-drawn : goal.returns-in_err-word-clause-drawn
returns-in_err-word-clause-drawn g c =
    let none = c.in_err-word.ensures.gives in
    let bound : c.max-i-end.result ≡ words_for c.args.digits = c.max-i-end.ensures ∙ ap (λ n. max n 1) c.div_ceil.ensures ∙ words_are c.args.digits in
    rw c.from_residual.ensures (no_piece c.args.digits c.loop-i.invariant none.0 (omega arith), none.1)

pub returns-in_err-word-clause-counts : goal.returns-in_err-word-clause-counts
returns-in_err-word-clause-counts g c =
    let none = c.in_err-word.ensures.gives in
    counts_none _ _ _ _ c.loop-i.invariant.counts _ _ none.0 none.1 c.in_err-word.ensures.counts

pub overflow_add-number : goal.overflow_add-number
overflow_add-number g c =
    let bound : c.max-i-end.result ≡ max (div_ceil c.args.digits 32) 1 = c.max-i-end.ensures ∙ ap (λ n. max n 1) c.div_ceil.ensures in
    let few = words_few c.args.digits c.requires in
    let word = c.from.ensures in
    let small : c.from.result < 2 ^ 32 = omega arith in
    let h = more_whole c.loop-i.number c.from.result c.loop-i.i c.loop-i.invariant.small small (omega arith) in
    let k = more_fits c.loop-i.number c.from.result c.loop-i.i c.loop-i.invariant.small small (omega arith) in
    omega arith

pub loop-i-preserved : goal.loop-i-preserved
loop-i-preserved g c =
    let bound : c.max-i-end.result ≡ max (div_ceil c.args.digits 32) 1 = c.max-i-end.ensures ∙ ap (λ n. max n 1) c.div_ceil.ensures in
    let few = words_few c.args.digits c.requires in
    let word = c.from.ensures in
    let small : c.from.result < 2 ^ 32 = omega arith in
    has_more c.loop-i.invariant c.from.result _ _ (c.in_ok-word.ensures.gives ∙ ap (λ x. x ∷ g.W.Words.words c.next.new.self) (sym word)) c.in_ok-word.ensures.counts small (omega arith)

pub returns-clause-drawn : goal.returns-clause-drawn
returns-clause-drawn g c =
    let bound : c.max-i-end.result ≡ words_for c.args.digits = c.max-i-end.ensures ∙ ap (λ n. max n 1) c.div_ceil.ensures ∙ words_are c.args.digits in
    has_piece c.args.digits c.loop-i.invariant c.requires (omega arith)

pub returns-clause-counts : goal.returns-clause-counts
returns-clause-counts g c = c.loop-i.invariant.counts
