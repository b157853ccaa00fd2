use Rattle.std.proofs.Common.{◌≡◌, ◌<◌, ◌≤◌, ◌+◌, ◌++◌, ◌∙◌, [], All, None, Some, ap, sym, subst, arith, length, get_or, drop, map, nat_abs}
use Rattle.std.specs.List.{flat_map}
use Rattle.std.proofs.lemmas.List.{drop_more, length-set}
use Rattle.std.proofs.lemmas.Result.{err_from_is_err_and}
use Rattle.tda_spine.proofs.Fits.{inner_at}
use Rattle.tda_prices.specs.Kept.{ArePricesOf}
use Rattle.tda_prices.specs.Left.{Reads}
use Rattle.tda_prices.specs.PricesText.{fit_places, places_of, price_limit}
use Rattle.tda_prices.proofs.PartRows.{none_left}
use Rattle.tda_prices.proofs.Reading.{all_read, read_part, reads_none, stop_part}
use Rattle.tda_prices.proofs.Splits.{all_begin, begins_here, one_more}
use Rattle.tda_prices.proofs.reader.read_fits.Goals as goal

pub loop-parent-init : goal.loop-parent-init
loop-parent-init c =
    let s = c.args.schema.now in
    let sp = c.args.spine.now in
    let t = c.units.ensures.sound.tree in
    let items = c.parents-parent-items.result.now in
    let value = c.parents-parent-items.ensures.value in
    let whole = places_of s sp in
    let f = fit_places s sp in
    let rest = flat_map f (map Some items) in
    let split : whole ≡ f None ++ rest = ap (λ ps. f None ++ flat_map f (map Some ps)) (sym value) in
    record {
      reads = read_part whole whole (f None) rest c.args.rows.now c.args.rows.now [] [] split (reads_none whole c.args.rows.now [] c.requires.some) c.read_root.new.rows c.read_root.new.prices.items
          (subst (λ b. Reads (f None) [] c.args.rows.now c.read_root.new.rows b c.read_root.new.prices.items) c.in_ok-numbers.ensures.items c.in_ok-read_root.ensures.ok);
      units = omega (arith, c.in_ok-starts.ensures.len, c.units.ensures.count, c.in_ok-starts.starts.ok.0);
      begin = λ i less. absurd (omega (arith, less));
    }

pub index_mut-requires : goal.index_mut-requires
index_mut-requires c =
    let s = c.args.schema.now in
    let sp = c.args.spine.now in
    let t = c.units.ensures.sound.tree in
    let items = c.parents-parent-items.result.now in
    let value = c.parents-parent-items.ensures.value in
    let whole = places_of s sp in
    let f = fit_places s sp in
    let k = c.loop-parent.parent-index in
    let below : k < length items = omega (arith, c.loop-parent-test.true) in
    let p = get_or items k 0 in
    let rest = flat_map f (map Some (drop (k + 1) items)) in
    let next : flat_map f (map Some (drop k items)) ≡ f (Some p) ++ rest = ap (λ ps. flat_map f (map Some ps)) (drop_more items k 0 below) in
    let inner = inner_at sp t items value k below in
    omega (arith, inner.here, c.loop-parent.invariant.units, c.loop-parent.starts.ok.0)

pub read_split-requires-clause-parent : goal.read_split-requires-clause-parent
read_split-requires-clause-parent c =
    let s = c.args.schema.now in
    let sp = c.args.spine.now in
    let t = c.units.ensures.sound.tree in
    let items = c.parents-parent-items.result.now in
    let value = c.parents-parent-items.ensures.value in
    let whole = places_of s sp in
    let f = fit_places s sp in
    let k = c.loop-parent.parent-index in
    let below : k < length items = omega (arith, c.loop-parent-test.true) in
    let p = get_or items k 0 in
    let rest = flat_map f (map Some (drop (k + 1) items)) in
    let next : flat_map f (map Some (drop k items)) ≡ f (Some p) ++ rest = ap (λ ps. flat_map f (map Some ps)) (drop_more items k 0 below) in
    (inner_at sp t items value k below).here

pub returns-in_err-read_split-clause-err : goal.returns-in_err-read_split-clause-err
returns-in_err-read_split-clause-err c =
    let s = c.args.schema.now in
    let sp = c.args.spine.now in
    let t = c.units.ensures.sound.tree in
    let items = c.parents-parent-items.result.now in
    let value = c.parents-parent-items.ensures.value in
    let whole = places_of s sp in
    let f = fit_places s sp in
    let k = c.loop-parent.parent-index in
    let below : k < length items = omega (arith, c.loop-parent-test.true) in
    let p = get_or items k 0 in
    let rest = flat_map f (map Some (drop (k + 1) items)) in
    let next : flat_map f (map Some (drop k items)) ≡ f (Some p) ++ rest = ap (λ ps. flat_map f (map Some ps)) (drop_more items k 0 below) in
    let why = c.in_err-read_split.field-0.0 in
    let e = err_from_is_err_and c.from_residual-in_err-read_split.result c.from_residual-in_err-read_split.ensures.1 in
    rw (e.1, e.2)
    (stop_part whole (flat_map f (map Some (drop k items))) (f (Some p)) rest c.args.rows.now c.loop-parent.rows [] c.loop-parent.numbers.items next c.loop-parent.invariant.reads why c.in_err-read_split.ensures.err)

pub loop-parent-preserved : goal.loop-parent-preserved
loop-parent-preserved c =
    let s = c.args.schema.now in
    let sp = c.args.spine.now in
    let t = c.units.ensures.sound.tree in
    let items = c.parents-parent-items.result.now in
    let value = c.parents-parent-items.ensures.value in
    let whole = places_of s sp in
    let f = fit_places s sp in
    let k = c.loop-parent.parent-index in
    let below : k < length items = omega (arith, c.loop-parent-test.true) in
    let p = get_or items k 0 in
    let rest = flat_map f (map Some (drop (k + 1) items)) in
    let next : flat_map f (map Some (drop k items)) ≡ f (Some p) ++ rest = ap (λ ps. flat_map f (map Some ps)) (drop_more items k 0 below) in
    let inner = inner_at sp t items value k below in
    let reads = c.loop-parent.invariant.reads in
    let read : c.len.result + length (flat_map f (map Some (drop k items))) ≡ length whole = omega (arith, reads.size, ap length reads.appended, c.len.ensures, c.loop-parent.numbers.ok.0) in
    record {
      reads = read_part whole (flat_map f (map Some (drop k items))) (f (Some p)) rest c.args.rows.now c.loop-parent.rows [] c.loop-parent.numbers.items next reads c.read_split.new.rows c.read_split.new.prices.items c.in_ok-read_split.ensures.ok;
      units = length-set c.loop-parent.starts.items p c.len.result ∙ c.loop-parent.invariant.units;
      begin = one_more s sp t items value c.loop-parent.starts.items k c.len.result below (omega (arith, inner.here, c.loop-parent.invariant.units)) c.loop-parent.invariant.begin
          (begins_here s sp t items value k below c.len.result read);
    }

pub returns-clause-ok : goal.returns-clause-ok
returns-clause-ok c =
    let s = c.args.schema.now in
    let sp = c.args.spine.now in
    let t = c.units.ensures.sound.tree in
    let items = c.parents-parent-items.result.now in
    let value = c.parents-parent-items.ensures.value in
    let whole = places_of s sp in
    let f = fit_places s sp in
    let none = ap (λ ps. flat_map f (map Some ps)) (none_left items c.loop-parent.parent-index (omega (arith, c.loop-parent-test.false))) in
    subst (λ ns. Reads whole [] c.args.rows.now c.loop-parent.rows [] ns) (sym (ap (λ p. p.numbers) c.new.ensures))
    (all_read whole c.args.rows.now c.loop-parent.rows [] c.loop-parent.numbers.items _ none c.loop-parent.invariant.reads)

pub returns-clause-prices : goal.returns-clause-prices
returns-clause-prices c =
    let s = c.args.schema.now in
    let sp = c.args.spine.now in
    let t = c.units.ensures.sound.tree in
    let items = c.parents-parent-items.result.now in
    let value = c.parents-parent-items.ensures.value in
    let whole = places_of s sp in
    let f = fit_places s sp in
    let past : length items ≤ c.loop-parent.parent-index = omega (arith, c.loop-parent-test.false) in
    let reads = c.loop-parent.invariant.reads in
    let none = ap length (ap (λ ps. flat_map f (map Some ps)) (none_left items c.loop-parent.parent-index past)) in
    subst (ArePricesOf s sp) (sym c.new.ensures) (record {
      prices = record {
        size = omega (arith, reads.size, none, ap length reads.appended);
        near = subst (All (λ z. nat_abs z ≤ price_limit)) (sym reads.appended) reads.near;
      };
      units = c.loop-parent.invariant.units;
      splits = all_begin s sp t items value c.loop-parent.starts.items c.loop-parent.parent-index past c.loop-parent.invariant.begin;
    })
