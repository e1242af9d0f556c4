use Rattle.std.proofs.Common.{List, sym, subst, rules}
use Rattle.std.specs.Io.KnownBytes.{Appends}
use Rattle.dbn_net.specs.declared.decl.Decl.{Decl}
use Rattle.dbn_store.specs.States.{situation, run_state}
use Rattle.dbn_engine.specs.Steps.{said}
use Rattle.dbn_engine.specs.Serving.{line_of}
use Rattle.dbn_engine.specs.Saying.{HasText, Misses}
use Rattle.dbn_engine.specs.Obeying.{terms_of}
use Rattle.dbn_engine.proofs.ReplyLaws.{line_text}
use Rattle.dbn_engine.proofs.Served.{text_is, has_text, next_plain, next_tended, stand_now, stand_behind, since_obeyed, since_tended, stops_obeying, stops_writing, stops_tending}
use Rattle.dbn_engine.proofs.engine.serve.Goals as goal

pub returns-in-Err-clause-stops : goal.returns-in-Err-clause-stops
returns-in-Err-clause-stops g c =
    let terms = terms_of c.args.terms.now in
    let line = line_of c.args.line.now in
    let s = situation (g.C.Core.rules c.args.core.now) (g.C.Core.state c.args.core.now) in
    let old = g.K.Keeper.state c.args.keeper.now in
    let live = g.C.Core.live c.args.core.now in
    let settled = g.met.K.Keeper.settled c.args.keeper.now c.requires.joined.keeper_live in
    let sound = g.met.K.Keeper.sound c.args.keeper.now in
    let t = situation (g.C.Core.rules c.obey_line.new.core) (g.C.Core.state c.obey_line.new.core) in
    let mid = g.K.Keeper.state c.obey_line.new.keeper in
    let live_mid = g.C.Core.live c.obey_line.new.core in
    let sound_mid = g.met.K.Keeper.sound c.obey_line.new.keeper in
    stops_obeying c.in-Err.why live terms s t old mid line (g.S.Sink.taken c.args.out.now) c.requires.joined settled sound sound_mid c.obey_line.ensures.keeps c.obey_line.ensures.changes (search rules)

pub returns-in-Err-clause-since : goal.returns-in-Err-clause-since
returns-in-Err-clause-since g c =
    let terms = terms_of c.args.terms.now in
    let line = line_of c.args.line.now in
    let s = situation (g.C.Core.rules c.args.core.now) (g.C.Core.state c.args.core.now) in
    let old = g.K.Keeper.state c.args.keeper.now in
    let live = g.C.Core.live c.args.core.now in
    let settled = g.met.K.Keeper.settled c.args.keeper.now c.requires.joined.keeper_live in
    let sound = g.met.K.Keeper.sound c.args.keeper.now in
    let t = situation (g.C.Core.rules c.obey_line.new.core) (g.C.Core.state c.obey_line.new.core) in
    let mid = g.K.Keeper.state c.obey_line.new.keeper in
    let live_mid = g.C.Core.live c.obey_line.new.core in
    let sound_mid = g.met.K.Keeper.sound c.obey_line.new.keeper in
    since_obeyed terms live s old mid line c.requires.joined settled sound c.obey_line.ensures.changes

pub say-requires : goal.say-requires
say-requires g c =
    let terms = terms_of c.args.terms.now in
    let line = line_of c.args.line.now in
    let s = situation (g.C.Core.rules c.args.core.now) (g.C.Core.state c.args.core.now) in
    let old = g.K.Keeper.state c.args.keeper.now in
    let live = g.C.Core.live c.args.core.now in
    let settled = g.met.K.Keeper.settled c.args.keeper.now c.requires.joined.keeper_live in
    let sound = g.met.K.Keeper.sound c.args.keeper.now in
    let t = situation (g.C.Core.rules c.obey_line.new.core) (g.C.Core.state c.obey_line.new.core) in
    let mid = g.K.Keeper.state c.obey_line.new.keeper in
    let live_mid = g.C.Core.live c.obey_line.new.core in
    let sound_mid = g.met.K.Keeper.sound c.obey_line.new.keeper in
    let made = c.in-Ok.made in
    let done = c.in-Ok.ensures.done in
    let settled_mid = g.met.K.Keeper.settled c.obey_line.new.keeper done.joined.keeper_live in
    let net = c.obey_line.ensures.net in
    let keeps = c.obey_line.ensures.keeps in
    subst (λ (n : List Decl). HasText n made.reply) (sym c.net.ensures) (has_text terms live_mid s t old mid line made done net (line_text (run_state s old) c.is_live-live.ensures.net (c.is_live-live.ensures.good c.requires.joined.core) terms line))

pub returns-in-Err-say-clause-stops : goal.returns-in-Err-say-clause-stops
returns-in-Err-say-clause-stops g c =
    let terms = terms_of c.args.terms.now in
    let line = line_of c.args.line.now in
    let s = situation (g.C.Core.rules c.args.core.now) (g.C.Core.state c.args.core.now) in
    let old = g.K.Keeper.state c.args.keeper.now in
    let live = g.C.Core.live c.args.core.now in
    let settled = g.met.K.Keeper.settled c.args.keeper.now c.requires.joined.keeper_live in
    let sound = g.met.K.Keeper.sound c.args.keeper.now in
    let t = situation (g.C.Core.rules c.obey_line.new.core) (g.C.Core.state c.obey_line.new.core) in
    let mid = g.K.Keeper.state c.obey_line.new.keeper in
    let live_mid = g.C.Core.live c.obey_line.new.core in
    let sound_mid = g.met.K.Keeper.sound c.obey_line.new.keeper in
    let made = c.in-Ok.made in
    let done = c.in-Ok.ensures.done in
    let settled_mid = g.met.K.Keeper.settled c.obey_line.new.keeper done.joined.keeper_live in
    let net = c.obey_line.ensures.net in
    let keeps = c.obey_line.ensures.keeps in
    let misses = subst (λ (n : List Decl). Misses c.in-Err-say.why (g.S.Sink.taken c.args.out.now) (g.S.Sink.taken c.say.new.out) (said n made.reply)) c.net.ensures c.in-Err-say.ensures.part in
    stops_writing c.in-Err-say.why live_mid terms s t old mid line (g.S.Sink.taken c.args.out.now) (g.S.Sink.taken c.say.new.out) made done net settled_mid keeps misses (search rules)

pub returns-in-Err-say-clause-since : goal.returns-in-Err-say-clause-since
returns-in-Err-say-clause-since g c =
    let terms = terms_of c.args.terms.now in
    let line = line_of c.args.line.now in
    let s = situation (g.C.Core.rules c.args.core.now) (g.C.Core.state c.args.core.now) in
    let old = g.K.Keeper.state c.args.keeper.now in
    let live = g.C.Core.live c.args.core.now in
    let settled = g.met.K.Keeper.settled c.args.keeper.now c.requires.joined.keeper_live in
    let sound = g.met.K.Keeper.sound c.args.keeper.now in
    let t = situation (g.C.Core.rules c.obey_line.new.core) (g.C.Core.state c.obey_line.new.core) in
    let mid = g.K.Keeper.state c.obey_line.new.keeper in
    let live_mid = g.C.Core.live c.obey_line.new.core in
    let sound_mid = g.met.K.Keeper.sound c.obey_line.new.keeper in
    since_obeyed terms live s old mid line c.requires.joined settled sound c.obey_line.ensures.changes

pub returns-then-not-recorded-clause-text : goal.returns-then-not-recorded-clause-text
returns-then-not-recorded-clause-text g c =
    let terms = terms_of c.args.terms.now in
    let line = line_of c.args.line.now in
    let s = situation (g.C.Core.rules c.args.core.now) (g.C.Core.state c.args.core.now) in
    let old = g.K.Keeper.state c.args.keeper.now in
    let live = g.C.Core.live c.args.core.now in
    let settled = g.met.K.Keeper.settled c.args.keeper.now c.requires.joined.keeper_live in
    let sound = g.met.K.Keeper.sound c.args.keeper.now in
    let t = situation (g.C.Core.rules c.obey_line.new.core) (g.C.Core.state c.obey_line.new.core) in
    let mid = g.K.Keeper.state c.obey_line.new.keeper in
    let live_mid = g.C.Core.live c.obey_line.new.core in
    let sound_mid = g.met.K.Keeper.sound c.obey_line.new.keeper in
    let made = c.in-Ok.made in
    let done = c.in-Ok.ensures.done in
    let settled_mid = g.met.K.Keeper.settled c.obey_line.new.keeper done.joined.keeper_live in
    let net = c.obey_line.ensures.net in
    let keeps = c.obey_line.ensures.keeps in
    let wrote : Appends (g.S.Sink.taken c.args.out.now) (g.S.Sink.taken c.say.new.out) (said t.net made.reply) = subst (λ (n : List Decl). Appends (g.S.Sink.taken c.args.out.now) (g.S.Sink.taken c.say.new.out) (said n made.reply)) c.net.ensures c.in-Ok-say.ensures.text in
    subst (Appends (g.S.Sink.taken c.args.out.now) (g.S.Sink.taken c.say.new.out)) (sym (text_is terms live_mid s t old mid line made done net)) wrote

pub returns-then-not-recorded-clause-next : goal.returns-then-not-recorded-clause-next
returns-then-not-recorded-clause-next g c =
    let terms = terms_of c.args.terms.now in
    let line = line_of c.args.line.now in
    let s = situation (g.C.Core.rules c.args.core.now) (g.C.Core.state c.args.core.now) in
    let old = g.K.Keeper.state c.args.keeper.now in
    let live = g.C.Core.live c.args.core.now in
    let settled = g.met.K.Keeper.settled c.args.keeper.now c.requires.joined.keeper_live in
    let sound = g.met.K.Keeper.sound c.args.keeper.now in
    let t = situation (g.C.Core.rules c.obey_line.new.core) (g.C.Core.state c.obey_line.new.core) in
    let mid = g.K.Keeper.state c.obey_line.new.keeper in
    let live_mid = g.C.Core.live c.obey_line.new.core in
    let sound_mid = g.met.K.Keeper.sound c.obey_line.new.keeper in
    let made = c.in-Ok.made in
    let done = c.in-Ok.ensures.done in
    let settled_mid = g.met.K.Keeper.settled c.obey_line.new.keeper done.joined.keeper_live in
    let net = c.obey_line.ensures.net in
    let keeps = c.obey_line.ensures.keeps in
    next_plain terms live_mid s t old mid line made done c.if-not-recorded.true

pub returns-then-not-recorded-clause-since : goal.returns-then-not-recorded-clause-since
returns-then-not-recorded-clause-since g c =
    let terms = terms_of c.args.terms.now in
    let line = line_of c.args.line.now in
    let s = situation (g.C.Core.rules c.args.core.now) (g.C.Core.state c.args.core.now) in
    let old = g.K.Keeper.state c.args.keeper.now in
    let live = g.C.Core.live c.args.core.now in
    let settled = g.met.K.Keeper.settled c.args.keeper.now c.requires.joined.keeper_live in
    let sound = g.met.K.Keeper.sound c.args.keeper.now in
    let t = situation (g.C.Core.rules c.obey_line.new.core) (g.C.Core.state c.obey_line.new.core) in
    let mid = g.K.Keeper.state c.obey_line.new.keeper in
    let live_mid = g.C.Core.live c.obey_line.new.core in
    let sound_mid = g.met.K.Keeper.sound c.obey_line.new.keeper in
    since_obeyed terms live s old mid line c.requires.joined settled sound c.obey_line.ensures.changes

pub returns-in-Ok-tend-clause-text : goal.returns-in-Ok-tend-clause-text
returns-in-Ok-tend-clause-text g c =
    let terms = terms_of c.args.terms.now in
    let line = line_of c.args.line.now in
    let s = situation (g.C.Core.rules c.args.core.now) (g.C.Core.state c.args.core.now) in
    let old = g.K.Keeper.state c.args.keeper.now in
    let live = g.C.Core.live c.args.core.now in
    let settled = g.met.K.Keeper.settled c.args.keeper.now c.requires.joined.keeper_live in
    let sound = g.met.K.Keeper.sound c.args.keeper.now in
    let t = situation (g.C.Core.rules c.obey_line.new.core) (g.C.Core.state c.obey_line.new.core) in
    let mid = g.K.Keeper.state c.obey_line.new.keeper in
    let live_mid = g.C.Core.live c.obey_line.new.core in
    let sound_mid = g.met.K.Keeper.sound c.obey_line.new.keeper in
    let made = c.in-Ok.made in
    let done = c.in-Ok.ensures.done in
    let settled_mid = g.met.K.Keeper.settled c.obey_line.new.keeper done.joined.keeper_live in
    let net = c.obey_line.ensures.net in
    let keeps = c.obey_line.ensures.keeps in
    let wrote : Appends (g.S.Sink.taken c.args.out.now) (g.S.Sink.taken c.say.new.out) (said t.net made.reply) = subst (λ (n : List Decl). Appends (g.S.Sink.taken c.args.out.now) (g.S.Sink.taken c.say.new.out) (said n made.reply)) c.net.ensures c.in-Ok-say.ensures.text in
    subst (Appends (g.S.Sink.taken c.args.out.now) (g.S.Sink.taken c.say.new.out)) (sym (text_is terms live_mid s t old mid line made done net)) wrote

pub returns-in-Ok-tend-clause-next : goal.returns-in-Ok-tend-clause-next
returns-in-Ok-tend-clause-next g c =
    let terms = terms_of c.args.terms.now in
    let line = line_of c.args.line.now in
    let s = situation (g.C.Core.rules c.args.core.now) (g.C.Core.state c.args.core.now) in
    let old = g.K.Keeper.state c.args.keeper.now in
    let live = g.C.Core.live c.args.core.now in
    let settled = g.met.K.Keeper.settled c.args.keeper.now c.requires.joined.keeper_live in
    let sound = g.met.K.Keeper.sound c.args.keeper.now in
    let t = situation (g.C.Core.rules c.obey_line.new.core) (g.C.Core.state c.obey_line.new.core) in
    let mid = g.K.Keeper.state c.obey_line.new.keeper in
    let live_mid = g.C.Core.live c.obey_line.new.core in
    let sound_mid = g.met.K.Keeper.sound c.obey_line.new.keeper in
    let made = c.in-Ok.made in
    let done = c.in-Ok.ensures.done in
    let settled_mid = g.met.K.Keeper.settled c.obey_line.new.keeper done.joined.keeper_live in
    let net = c.obey_line.ensures.net in
    let keeps = c.obey_line.ensures.keeps in
    let new = g.K.Keeper.state c.tend.new.keeper in
    let sound_new = g.met.K.Keeper.sound c.tend.new.keeper in
    next_tended terms live_mid s t old mid new line made done c.if-not-recorded.false c.in-Ok-tend.ensures.next

pub returns-in-Ok-tend-clause-since : goal.returns-in-Ok-tend-clause-since
returns-in-Ok-tend-clause-since g c =
    let terms = terms_of c.args.terms.now in
    let line = line_of c.args.line.now in
    let s = situation (g.C.Core.rules c.args.core.now) (g.C.Core.state c.args.core.now) in
    let old = g.K.Keeper.state c.args.keeper.now in
    let live = g.C.Core.live c.args.core.now in
    let settled = g.met.K.Keeper.settled c.args.keeper.now c.requires.joined.keeper_live in
    let sound = g.met.K.Keeper.sound c.args.keeper.now in
    let t = situation (g.C.Core.rules c.obey_line.new.core) (g.C.Core.state c.obey_line.new.core) in
    let mid = g.K.Keeper.state c.obey_line.new.keeper in
    let live_mid = g.C.Core.live c.obey_line.new.core in
    let sound_mid = g.met.K.Keeper.sound c.obey_line.new.keeper in
    let made = c.in-Ok.made in
    let done = c.in-Ok.ensures.done in
    let settled_mid = g.met.K.Keeper.settled c.obey_line.new.keeper done.joined.keeper_live in
    let net = c.obey_line.ensures.net in
    let keeps = c.obey_line.ensures.keeps in
    let new = g.K.Keeper.state c.tend.new.keeper in
    let sound_new = g.met.K.Keeper.sound c.tend.new.keeper in
    since_tended terms live live_mid s t old mid new line made c.requires.joined settled sound done settled_mid keeps c.obey_line.ensures.changes (c.in-Ok.ensures.steady c.if-not-recorded.false) c.tend.ensures.brings

pub returns-in-Err-tend-clause-stops : goal.returns-in-Err-tend-clause-stops
returns-in-Err-tend-clause-stops g c =
    let terms = terms_of c.args.terms.now in
    let line = line_of c.args.line.now in
    let s = situation (g.C.Core.rules c.args.core.now) (g.C.Core.state c.args.core.now) in
    let old = g.K.Keeper.state c.args.keeper.now in
    let live = g.C.Core.live c.args.core.now in
    let settled = g.met.K.Keeper.settled c.args.keeper.now c.requires.joined.keeper_live in
    let sound = g.met.K.Keeper.sound c.args.keeper.now in
    let t = situation (g.C.Core.rules c.obey_line.new.core) (g.C.Core.state c.obey_line.new.core) in
    let mid = g.K.Keeper.state c.obey_line.new.keeper in
    let live_mid = g.C.Core.live c.obey_line.new.core in
    let sound_mid = g.met.K.Keeper.sound c.obey_line.new.keeper in
    let made = c.in-Ok.made in
    let done = c.in-Ok.ensures.done in
    let settled_mid = g.met.K.Keeper.settled c.obey_line.new.keeper done.joined.keeper_live in
    let net = c.obey_line.ensures.net in
    let keeps = c.obey_line.ensures.keeps in
    let new = g.K.Keeper.state c.tend.new.keeper in
    let sound_new = g.met.K.Keeper.sound c.tend.new.keeper in
    let wrote : Appends (g.S.Sink.taken c.args.out.now) (g.S.Sink.taken c.say.new.out) (said t.net made.reply) = subst (λ (n : List Decl). Appends (g.S.Sink.taken c.args.out.now) (g.S.Sink.taken c.say.new.out) (said n made.reply)) c.net.ensures c.in-Ok-say.ensures.text in
    stops_tending c.in-Err-tend.why live_mid terms s t old mid new line (g.S.Sink.taken c.args.out.now) (g.S.Sink.taken c.say.new.out) made done net settled_mid sound_mid sound_new keeps c.tend.ensures.keeps c.tend.ensures.brings wrote (search rules)

pub returns-in-Err-tend-clause-since : goal.returns-in-Err-tend-clause-since
returns-in-Err-tend-clause-since g c =
    let terms = terms_of c.args.terms.now in
    let line = line_of c.args.line.now in
    let s = situation (g.C.Core.rules c.args.core.now) (g.C.Core.state c.args.core.now) in
    let old = g.K.Keeper.state c.args.keeper.now in
    let live = g.C.Core.live c.args.core.now in
    let settled = g.met.K.Keeper.settled c.args.keeper.now c.requires.joined.keeper_live in
    let sound = g.met.K.Keeper.sound c.args.keeper.now in
    let t = situation (g.C.Core.rules c.obey_line.new.core) (g.C.Core.state c.obey_line.new.core) in
    let mid = g.K.Keeper.state c.obey_line.new.keeper in
    let live_mid = g.C.Core.live c.obey_line.new.core in
    let sound_mid = g.met.K.Keeper.sound c.obey_line.new.keeper in
    let made = c.in-Ok.made in
    let done = c.in-Ok.ensures.done in
    let settled_mid = g.met.K.Keeper.settled c.obey_line.new.keeper done.joined.keeper_live in
    let net = c.obey_line.ensures.net in
    let keeps = c.obey_line.ensures.keeps in
    let new = g.K.Keeper.state c.tend.new.keeper in
    let sound_new = g.met.K.Keeper.sound c.tend.new.keeper in
    since_tended terms live live_mid s t old mid new line made c.requires.joined settled sound done settled_mid keeps c.obey_line.ensures.changes (c.in-Ok.ensures.steady c.if-not-recorded.false) c.tend.ensures.brings

pub returns-in-Ok-tend-clause-now : goal.returns-in-Ok-tend-clause-now
returns-in-Ok-tend-clause-now g c =
    let terms = terms_of c.args.terms.now in
    let line = line_of c.args.line.now in
    let s = situation (g.C.Core.rules c.args.core.now) (g.C.Core.state c.args.core.now) in
    let old = g.K.Keeper.state c.args.keeper.now in
    let live = g.C.Core.live c.args.core.now in
    let settled = g.met.K.Keeper.settled c.args.keeper.now c.requires.joined.keeper_live in
    let sound = g.met.K.Keeper.sound c.args.keeper.now in
    let t = situation (g.C.Core.rules c.obey_line.new.core) (g.C.Core.state c.obey_line.new.core) in
    let mid = g.K.Keeper.state c.obey_line.new.keeper in
    let live_mid = g.C.Core.live c.obey_line.new.core in
    let sound_mid = g.met.K.Keeper.sound c.obey_line.new.keeper in
    let made = c.in-Ok.made in
    let done = c.in-Ok.ensures.done in
    let settled_mid = g.met.K.Keeper.settled c.obey_line.new.keeper done.joined.keeper_live in
    let net = c.obey_line.ensures.net in
    let keeps = c.obey_line.ensures.keeps in
    let new = g.K.Keeper.state c.tend.new.keeper in
    let sound_new = g.met.K.Keeper.sound c.tend.new.keeper in
    stand_behind terms live_mid live_mid s t old mid new line made done c.in-Ok-tend.ensures.joined (g.met.K.Keeper.settled c.tend.new.keeper c.in-Ok-tend.ensures.joined.keeper_live) keeps c.tend.ensures.keeps

pub returns-then-not-recorded-clause-now : goal.returns-then-not-recorded-clause-now
returns-then-not-recorded-clause-now g c =
    let terms = terms_of c.args.terms.now in
    let line = line_of c.args.line.now in
    let s = situation (g.C.Core.rules c.args.core.now) (g.C.Core.state c.args.core.now) in
    let old = g.K.Keeper.state c.args.keeper.now in
    let live = g.C.Core.live c.args.core.now in
    let settled = g.met.K.Keeper.settled c.args.keeper.now c.requires.joined.keeper_live in
    let sound = g.met.K.Keeper.sound c.args.keeper.now in
    let t = situation (g.C.Core.rules c.obey_line.new.core) (g.C.Core.state c.obey_line.new.core) in
    let mid = g.K.Keeper.state c.obey_line.new.keeper in
    let live_mid = g.C.Core.live c.obey_line.new.core in
    let sound_mid = g.met.K.Keeper.sound c.obey_line.new.keeper in
    let made = c.in-Ok.made in
    let done = c.in-Ok.ensures.done in
    let settled_mid = g.met.K.Keeper.settled c.obey_line.new.keeper done.joined.keeper_live in
    let net = c.obey_line.ensures.net in
    let keeps = c.obey_line.ensures.keeps in
    stand_now terms live_mid s t old mid line made done settled_mid keeps
