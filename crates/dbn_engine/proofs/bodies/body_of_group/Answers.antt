use Rattle.std.proofs.Common.{◌≡◌, ◌∷◌, [], length, sym, subst, ◌∙◌, arith}
use Rattle.dbn_net.specs.Tables.{shapes}
use Rattle.dbn_core.specs.Group.{AreMembers}
use Rattle.dbn_engine.proofs.BodyLaws.{member_number, member_short, member_fits, all_numbers, all_short, all_fit, single_is, small_body, large_body}
use Rattle.dbn_engine.proofs.bodies.body_of_group.Goals as goal

pub encode-requires : goal.encode-requires
encode-requires c =
    let one : length c.as_slice.result.now ≡ 1 = omega arith in
    let m = c.member-item.result in
    let are : c.args.members.now ≡ m ∷ [] = sym c.as_slice.ensures ∙ single_is c.as_slice.result.now m one c.member-item.is in
    let all : AreMembers c.args.net.now (m ∷ []) = subst (AreMembers c.args.net.now) are c.requires.members in
    member_number c.args.net.now m c.requires.net all.0

pub encode_group-requires-clause-numbers : goal.encode_group-requires-clause-numbers
encode_group-requires-clause-numbers c = all_numbers c.args.net.now c.args.members.now c.requires.net c.requires.members

pub returns-in_ok-body-in-len1 : goal.returns-in_ok-body-in-len1
returns-in_ok-body-in-len1 c =
    let one : length c.as_slice.result.now ≡ 1 = omega arith in
    let m = c.member-item.result in
    let are : c.args.members.now ≡ m ∷ [] = sym c.as_slice.ensures ∙ single_is c.as_slice.result.now m one c.member-item.is in
    let all : AreMembers c.args.net.now (m ∷ []) = subst (AreMembers c.args.net.now) are c.requires.members in
    let made = c.in_ok-body-in-len1.ensures in
    small_body c.args.net.now c.args.form c.args.members.now m c.in_ok-body-in-len1.body c.in-One.is are made.ok (made.read_again (shapes c.args.net.now) (member_fits c.args.net.now m all.0)) (made.short (member_short c.args.net.now m c.requires.net all.0))

pub returns-in_ok-body-in-Two : goal.returns-in_ok-body-in-Two
returns-in_ok-body-in-Two c =
    let made = c.in_ok-body-in-Two.ensures in
    large_body c.args.net.now c.args.form c.args.members.now c.in_ok-body-in-Two.body c.in-Two.is made.ok (made.read_again (shapes c.args.net.now) (all_fit c.args.net.now c.args.members.now c.requires.members))
    (made.short (all_short c.args.net.now c.args.members.now c.requires.net c.requires.members))
