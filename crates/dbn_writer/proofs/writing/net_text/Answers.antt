use Rattle.std.proofs.Common.{[], refl, sym, subst, ◌∙◌}
use Rattle.std.specs.List.{All}
use Rattle.dbn_net.specs.Texts.{canonical_list}
use Rattle.dbn_writer.specs.Known.{Known}
use Rattle.dbn_writer.specs.Writing.{Adds}
use Rattle.dbn_writer.proofs.NamedMore.{all_known}
use Rattle.dbn_writer.proofs.WritingLaws.{whole_text, text_is, text_again}
use Rattle.dbn_writer.proofs.writing.net_text.Goals as goal

pub add_declarations-requires : goal.add_declarations-requires
add_declarations-requires c =
    let net = c.args.net.now in
    subst (All (Known net)) (sym (c.as_slice.ensures ∙ c.decls-decls.ensures.value)) (all_known net [] net refl c.decls-decls.ensures.net)

pub returns-clause-text : goal.returns-clause-text
returns-clause-text c =
    let adds : Adds [] c.from_vec.result (canonical_list c.args.net.now c.args.at.now.instance c.args.at.now.marking) =
    whole_text c.args.net.now c.args.at.now c.as_slice.result.now c.new-out.result.items c.add_declarations.new.out.items c.add_facts.new.out.items c.add_tokens.new.out.items c.from_vec.result
    c.decls-decls.ensures.net (c.as_slice.ensures ∙ c.decls-decls.ensures.value) c.new-out.ensures.items c.from_vec.ensures c.in_ok-add_declarations.ensures c.in_ok-add_facts.ensures c.in_ok-add_tokens.ensures in
    text_is c.args.net.now c.args.at.now.instance c.args.at.now.marking c.from_vec.result adds

pub returns-clause-atoms : goal.returns-clause-atoms
returns-clause-atoms c =
    let adds : Adds [] c.from_vec.result (canonical_list c.args.net.now c.args.at.now.instance c.args.at.now.marking) =
    whole_text c.args.net.now c.args.at.now c.as_slice.result.now c.new-out.result.items c.add_declarations.new.out.items c.add_facts.new.out.items c.add_tokens.new.out.items c.from_vec.result
    c.decls-decls.ensures.net (c.as_slice.ensures ∙ c.decls-decls.ensures.value) c.new-out.ensures.items c.from_vec.ensures c.in_ok-add_declarations.ensures c.in_ok-add_facts.ensures c.in_ok-add_tokens.ensures in
    adds.atoms

pub returns-clause-read_again : goal.returns-clause-read_again
returns-clause-read_again c =
    let adds : Adds [] c.from_vec.result (canonical_list c.args.net.now c.args.at.now.instance c.args.at.now.marking) =
    whole_text c.args.net.now c.args.at.now c.as_slice.result.now c.new-out.result.items c.add_declarations.new.out.items c.add_facts.new.out.items c.add_tokens.new.out.items c.from_vec.result
    c.decls-decls.ensures.net (c.as_slice.ensures ∙ c.decls-decls.ensures.value) c.new-out.ensures.items c.from_vec.ensures c.in_ok-add_declarations.ensures c.in_ok-add_facts.ensures c.in_ok-add_tokens.ensures in
    λ good. text_again c.from_vec.result c.args.net.now c.args.at.now adds c.decls-decls.ensures.net good
