use Rattle.std.proofs.Common.{[], ◌∷◌, ◌++◌, map, ap, ◌∙◌}
use Rattle.dbn_net.specs.Printing.{word, list, typed_sexp}
use Rattle.dbn_writer.proofs.declarations.relation.Goals as goal

pub returns : goal.returns
returns c =
    c.list.ensures
    ∙ ap list (c.in_ok-add_columns.ensures
    ∙ ap (λ l. l ++ map typed_sexp c.args.fields.now) (c.in_ok-push.ensures.ok
    ∙ ap (λ l. l ++ c.in_ok-name.field-0 ∷ []) (c.in_ok-parts.ensures ∙ ap (λ w. word w ∷ []) c.as_slice.ensures)
    ∙ ap (λ one. (word _ ∷ []) ++ one ∷ []) c.in_ok-name.ensures))
