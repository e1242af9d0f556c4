use Rattle.std.proofs.Common.{◌<◌, ◌≤◌, ◌^◌, length, ◌∷◌, [], List, All, sym, subst}
use Rattle.std.specs.Prelude.{IfOk}
use Rattle.std.specs.List.{AllByRecursion}
use Rattle.dbn_value.specs.declared.member.Member.{Member}
use Rattle.dbn_net.specs.Tables.{shapes}
use Rattle.dbn_codec.specs.Bodies.{member_of, Fits}
use Rattle.dbn_core.specs.Group.{IsMember}
use Rattle.dbn_keeper.specs.declared.opening.Form.{Form}
use Rattle.dbn_keeper.specs.declared.opening.Form.TheVariants.{Two}
use Rattle.dbn_engine.specs.Obeying.{IsBody}
use Rattle.dbn_engine.proofs.BodyLaws.{member_number, member_short, member_fits, all_numbers, all_short, all_fit, ok_one, ok_all}
use Rattle.dbn_engine.proofs.bodies.body_of_one.Goals as goal

pub encode-requires : goal.encode-requires
encode-requires c =
    let m = member_of c.args.t c.args.row.now in
    let is : IsMember c.args.net.now m = record { within = c.requires.within; shape = c.requires.shape } in
    member_number c.args.net.now m c.requires.net is

pub returns-in-One : goal.returns-in-One
returns-in-One c =
    let m = member_of c.args.t c.args.row.now in
    let is : IsMember c.args.net.now m = record { within = c.requires.within; shape = c.requires.shape } in
    subst (λ (f : Form). IfOk c.encode.result (IsBody c.args.net.now f (m ∷ []))) (sym c.in-One.is)
    (ok_one c.args.net.now m c.encode.result c.encode.ensures.ok (c.encode.ensures.read_again (shapes c.args.net.now) (member_fits c.args.net.now m is)) (c.encode.ensures.short (member_short c.args.net.now m c.requires.net is)))

pub encode_group-requires-clause-numbers : goal.encode_group-requires-clause-numbers
encode_group-requires-clause-numbers c =
    let m = member_of c.args.t c.args.row.now in
    let is : IsMember c.args.net.now m = record { within = c.requires.within; shape = c.requires.shape } in
    subst (λ (l : List Member). All (λ (x : Member). x.t < 2 ^ 16) l) (sym c.in_ok-members-in-Two.ensures) (all_numbers c.args.net.now (m ∷ []) c.requires.net (is, tt))

pub returns-in_ok-members-in-Two : goal.returns-in_ok-members-in-Two
returns-in_ok-members-in-Two c =
    let m = member_of c.args.t c.args.row.now in
    let is : IsMember c.args.net.now m = record { within = c.requires.within; shape = c.requires.shape } in
    let ms = c.in_ok-members-in-Two.members in
    let fits = subst (λ (l : List Member). AllByRecursion (Fits (shapes c.args.net.now)) l) (sym c.in_ok-members-in-Two.ensures) (all_fit c.args.net.now (m ∷ []) (is, tt)) in
    let short = subst (λ (l : List Member). All (λ (x : Member). length x.row ≤ 80) l) (sym c.in_ok-members-in-Two.ensures) (all_short c.args.net.now (m ∷ []) c.requires.net (is, tt)) in
    let all = ok_all c.args.net.now ms c.encode_group.result c.encode_group.ensures.ok (c.encode_group.ensures.read_again (shapes c.args.net.now) fits) (c.encode_group.ensures.short short) in
    subst (λ (f : Form). IfOk c.encode_group.result (IsBody c.args.net.now f (m ∷ []))) (sym c.in-Two.is)
    (subst (λ (l : List Member). IfOk c.encode_group.result (IsBody c.args.net.now Two l)) c.in_ok-members-in-Two.ensures all)
