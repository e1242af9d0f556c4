use Rattle.std.proofs.Common.{◌≡◌, ◌+◌, true, false, length, sym, ap, ◌∙◌}
use Rattle.dbn_store.specs.States.{situation, run_state}
use Rattle.dbn_engine.specs.Obeying.{fits_in}
use Rattle.dbn_engine.proofs.Commands.{no_work, brings_new, joined_new, may_is, fit_is, size_is, kept_not, kept_is}
use Rattle.dbn_engine.proofs.keeping.keep.Goals as goal

pub returns-in_err-base-clause-brings : goal.returns-in_err-base-clause-brings
returns-in_err-base-clause-brings g c = no_work (g.K.Keeper.state c.args.keeper.now) _

pub returns-then-not-fits-clause-brings : goal.returns-then-not-fits-clause-brings
returns-then-not-fits-clause-brings g c = no_work (g.K.Keeper.state c.args.keeper.now) _

pub returns-then-not-fits-clause-made : goal.returns-then-not-fits-clause-made
returns-then-not-fits-clause-made g c =
    let s = situation (g.C.Core.rules c.args.core.now) (g.C.Core.state c.args.core.now) in
    let old = g.K.Keeper.state c.args.keeper.now in
    let r = run_state s old in
    let base = c.in_ok-base.base in
    let size : length base.text ≡ length c.as_slice-len.result.now = ap length (sym c.as_slice-len.ensures) in
    may_is c.args.net_bytes s old base.text false c.in_ok-base.ensures.text (ap (fits_in c.args.net_bytes old) size ∙ sym c.fits.ensures ∙ c.if-not-fits.true)

pub returns-then-not-fits-clause-next : goal.returns-then-not-fits-clause-next
returns-then-not-fits-clause-next g c =
    let s = situation (g.C.Core.rules c.args.core.now) (g.C.Core.state c.args.core.now) in
    let old = g.K.Keeper.state c.args.keeper.now in
    let r = run_state s old in
    let base = c.in_ok-base.base in
    let size : length base.text ≡ length c.as_slice-len.result.now = ap length (sym c.as_slice-len.ensures) in
    kept_not c.args.net_bytes r (may_is c.args.net_bytes s old base.text false c.in_ok-base.ensures.text (ap (fits_in c.args.net_bytes old) size ∙ sym c.fits.ensures ∙ c.if-not-fits.true))

pub checkpoint-requires-clause-fits : goal.checkpoint-requires-clause-fits
checkpoint-requires-clause-fits g c =
    let s = situation (g.C.Core.rules c.args.core.now) (g.C.Core.state c.args.core.now) in
    let old = g.K.Keeper.state c.args.keeper.now in
    let r = run_state s old in
    let base = c.in_ok-base.base in
    let size : length base.text ≡ length c.as_slice-len.result.now = ap length (sym c.as_slice-len.ensures) in
    let fits : fits_in c.args.net_bytes old (length base.text) ≡ true = ap (fits_in c.args.net_bytes old) size ∙ sym c.fits.ensures ∙ c.if-not-fits.false in
    fit_is c.args.net_bytes old (length base.text) c.requires.joined.last fits

pub checkpoint-requires-clause-text : goal.checkpoint-requires-clause-text
checkpoint-requires-clause-text g c =
    let s = situation (g.C.Core.rules c.args.core.now) (g.C.Core.state c.args.core.now) in
    let old = g.K.Keeper.state c.args.keeper.now in
    let r = run_state s old in
    let base = c.in_ok-base.base in
    let size : length base.text ≡ length c.as_slice-len.result.now = ap length (sym c.as_slice-len.ensures) in
    let fits : fits_in c.args.net_bytes old (length base.text) ≡ true = ap (fits_in c.args.net_bytes old) size ∙ sym c.fits.ensures ∙ c.if-not-fits.false in
    size_is c.args.net_bytes old (length base.text) c.requires.bound fits

pub returns-in_err-generation-clause-brings : goal.returns-in_err-generation-clause-brings
returns-in_err-generation-clause-brings g c =
    let s = situation (g.C.Core.rules c.args.core.now) (g.C.Core.state c.args.core.now) in
    let old = g.K.Keeper.state c.args.keeper.now in
    let r = run_state s old in
    let new = g.K.Keeper.state c.checkpoint.new.self in
    brings_new old new c.in_ok-base.base s (c.in_ok-base.ensures.stands (old.generation + 1)) c.checkpoint.ensures.any_moment

pub returns-clause-brings : goal.returns-clause-brings
returns-clause-brings g c =
    let s = situation (g.C.Core.rules c.args.core.now) (g.C.Core.state c.args.core.now) in
    let old = g.K.Keeper.state c.args.keeper.now in
    let r = run_state s old in
    let new = g.K.Keeper.state c.checkpoint.new.self in
    brings_new old new c.in_ok-base.base s (c.in_ok-base.ensures.stands (old.generation + 1)) c.checkpoint.ensures.any_moment

pub returns-clause-made : goal.returns-clause-made
returns-clause-made g c =
    let s = situation (g.C.Core.rules c.args.core.now) (g.C.Core.state c.args.core.now) in
    let old = g.K.Keeper.state c.args.keeper.now in
    let r = run_state s old in
    let base = c.in_ok-base.base in
    let size : length base.text ≡ length c.as_slice-len.result.now = ap length (sym c.as_slice-len.ensures) in
    let fits : fits_in c.args.net_bytes old (length base.text) ≡ true = ap (fits_in c.args.net_bytes old) size ∙ sym c.fits.ensures ∙ c.if-not-fits.false in
    (may_is c.args.net_bytes s old base.text true c.in_ok-base.ensures.text fits, c.in_ok-generation.ensures.generation)

pub returns-clause-joined : goal.returns-clause-joined
returns-clause-joined g c =
    let s = situation (g.C.Core.rules c.args.core.now) (g.C.Core.state c.args.core.now) in
    let old = g.K.Keeper.state c.args.keeper.now in
    let r = run_state s old in
    let new = g.K.Keeper.state c.checkpoint.new.self in
    joined_new (g.C.Core.live c.args.core.now) s old new c.in_ok-base.base c.requires.joined (g.met.K.Keeper.settled c.args.keeper.now c.requires.joined.keeper_live) (c.in_ok-base.ensures.stands (old.generation + 1))
    c.in_ok-generation.ensures.value c.in_ok-generation.ensures.live c.checkpoint.ensures.keeps

pub returns-clause-next : goal.returns-clause-next
returns-clause-next g c =
    let s = situation (g.C.Core.rules c.args.core.now) (g.C.Core.state c.args.core.now) in
    let old = g.K.Keeper.state c.args.keeper.now in
    let r = run_state s old in
    let base = c.in_ok-base.base in
    let size : length base.text ≡ length c.as_slice-len.result.now = ap length (sym c.as_slice-len.ensures) in
    let fits : fits_in c.args.net_bytes old (length base.text) ≡ true = ap (fits_in c.args.net_bytes old) size ∙ sym c.fits.ensures ∙ c.if-not-fits.false in
    let new = g.K.Keeper.state c.checkpoint.new.self in
    kept_is c.args.net_bytes s old new base (may_is c.args.net_bytes s old base.text true c.in_ok-base.ensures.text fits) c.in_ok-base.ensures.text c.in_ok-generation.ensures.header c.in_ok-generation.ensures.place c.checkpoint.ensures.keeps
