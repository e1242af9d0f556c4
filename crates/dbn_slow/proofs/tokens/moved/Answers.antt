use Rattle.std.proofs.Common.{◌≡◌, length, sym, ap, ◌∙◌, subst}
use Rattle.dbn_value.specs.Order.{value_cmp, rows_total}
use Rattle.dbn_core.specs.Moves.{AreGifts, taken_all, given_all, first_full, first_over}
use Rattle.dbn_core.proofs.MoveLaws.{taken_length, can_give}
use Rattle.dbn_slow.proofs.LoopLaws.{over_is, none_of}
use Rattle.dbn_slow.proofs.tokens.moved.Goals as goal

pub full_place-requires : goal.full_place-requires
full_place-requires c =
    let left = c.take_all.new.marking in
    let taken : c.take_all.new.marking ≡ taken_all value_cmp c.args.takes.now c.args.marking.now =
    c.take_all.ensures ∙ ap (λ ws. taken_all value_cmp ws c.in_ok-left.left) c.as_slice.ensures.value ∙ ap (taken_all value_cmp c.args.takes.now) c.in_ok-left.ensures in
    let same : length c.take_all.new.marking ≡ length c.args.marking.now = ap length taken ∙ taken_length value_cmp rows_total c.args.takes.now c.args.marking.now in
    let each : AreGifts (length c.take_all.new.marking) c.args.gives.now = subst (λ n. AreGifts n c.args.gives.now) (sym same) c.requires.gives in
    subst (AreGifts (length left)) (sym c.as_slice-2.ensures.value) each

pub returns-in-Some : goal.returns-in-Some
returns-in-Some c =
    let left = c.take_all.new.marking in
    let taken : c.take_all.new.marking ≡ taken_all value_cmp c.args.takes.now c.args.marking.now =
    c.take_all.ensures ∙ ap (λ ws. taken_all value_cmp ws c.in_ok-left.left) c.as_slice.ensures.value ∙ ap (taken_all value_cmp c.args.takes.now) c.in_ok-left.ensures in
    let same : length c.take_all.new.marking ≡ length c.args.marking.now = ap length taken ∙ taken_length value_cmp rows_total c.args.takes.now c.args.marking.now in
    let each : AreGifts (length c.take_all.new.marking) c.args.gives.now = subst (λ n. AreGifts n c.args.gives.now) (sym same) c.requires.gives in
    let full : first_over (given_all value_cmp c.args.gives.now left) ≡ c.full_place.result =
    over_is c.args.gives.now c.as_slice-2.result.now left c.full_place.result c.as_slice-2.ensures.value c.as_slice-2.ensures.sorted each c.places-places.ensures.counted c.full_place.ensures in
    ap (λ m. first_over (given_all value_cmp c.args.gives.now m)) (sym taken) ∙ full ∙ c.in-Some.is

pub give_all-requires : goal.give_all-requires
give_all-requires c =
    let left = c.take_all.new.marking in
    let taken : c.take_all.new.marking ≡ taken_all value_cmp c.args.takes.now c.args.marking.now =
    c.take_all.ensures ∙ ap (λ ws. taken_all value_cmp ws c.in_ok-left.left) c.as_slice.ensures.value ∙ ap (taken_all value_cmp c.args.takes.now) c.in_ok-left.ensures in
    let same : length c.take_all.new.marking ≡ length c.args.marking.now = ap length taken ∙ taken_length value_cmp rows_total c.args.takes.now c.args.marking.now in
    let each : AreGifts (length c.take_all.new.marking) c.args.gives.now = subst (λ n. AreGifts n c.args.gives.now) (sym same) c.requires.gives in
    let none = none_of c.full_place.result c.in_default.not-Some in
    let ws = c.as_slice-3.result.now in
    can_give value_cmp rows_total ws left c.as_slice-3.ensures.sorted (subst (AreGifts (length left)) (sym c.as_slice-3.ensures.value) each)
    (ap (λ l. first_full value_cmp l left) (c.as_slice-3.ensures.value ∙ sym c.as_slice-2.ensures.value) ∙ sym c.full_place.ensures ∙ none)

pub returns : goal.returns
returns c =
    let left = c.take_all.new.marking in
    let taken : c.take_all.new.marking ≡ taken_all value_cmp c.args.takes.now c.args.marking.now =
    c.take_all.ensures ∙ ap (λ ws. taken_all value_cmp ws c.in_ok-left.left) c.as_slice.ensures.value ∙ ap (taken_all value_cmp c.args.takes.now) c.in_ok-left.ensures in
    let same : length c.take_all.new.marking ≡ length c.args.marking.now = ap length taken ∙ taken_length value_cmp rows_total c.args.takes.now c.args.marking.now in
    let each : AreGifts (length c.take_all.new.marking) c.args.gives.now = subst (λ n. AreGifts n c.args.gives.now) (sym same) c.requires.gives in
    let full : first_over (given_all value_cmp c.args.gives.now left) ≡ c.full_place.result =
    over_is c.args.gives.now c.as_slice-2.result.now left c.full_place.result c.as_slice-2.ensures.value c.as_slice-2.ensures.sorted each c.places-places.ensures.counted c.full_place.ensures in
    let none = none_of c.full_place.result c.in_default.not-Some in (
      c.in_ok-give_all.ensures ∙ ap (λ ws. given_all value_cmp ws left) c.as_slice-3.ensures.value ∙ ap (given_all value_cmp c.args.gives.now) taken,
      ap (λ m. first_over (given_all value_cmp c.args.gives.now m)) (sym taken) ∙ full ∙ none,
    )
