use Rattle.std.proofs.Common.{sym, ap, ◌∙◌, subst, take}
use Rattle.dbn_formula.specs.Solutions.{HasShape}
use Rattle.dbn_net.specs.Tables.{types_of}
use Rattle.dbn_net.proofs.InsideLaws.{bound_shape}
use Rattle.dbn_slow.proofs.enabling.is_enabled.Goals as goal

pub has_tokens-requires : goal.has_tokens-requires
has_tokens-requires c =
    subst (λ row. HasShape row (types_of c.args.transition.now.bound)) (sym (c.in_ok-bound.ensures ∙ ap (λ n. take n c.args.row.now) c.len.ensures)) (bound_shape c.args.transition.now c.args.row.now c.requires.row)

pub is_guarded-requires : goal.is_guarded-requires
is_guarded-requires c =
    subst (λ row. HasShape row (types_of c.args.transition.now.bound)) (sym (c.in_ok-bound.ensures ∙ ap (λ n. take n c.args.row.now) c.len.ensures)) (bound_shape c.args.transition.now c.args.row.now c.requires.row)
