use Rattle.std.proofs.Common.{rules, ◌≡◌, [], ◌∷◌, None, Some, IfOk, ◌∙◌, subst}
use Rattle.dbn_value.specs.Scope.{entry_of}
use Rattle.dbn_scratch.specs.Envs.{env_of}
use Rattle.dbn_scratch.specs.Given.{kept_of, row_of}
use Rattle.dbn_scratch.proofs.LoopLaws.{known_column, unknown_column}
use Rattle.dbn_scratch.proofs.answering.column_of.Goals as goal

pub returns-in_ok-push-in-Some : goal.returns-in_ok-push-in-Some
returns-in_ok-push-in-Some c =
    let one : row_of c.push.new.self.items ≡ c.in-Some.value.now ∷ [] = search rules in
    let is : entry_of (env_of c.args.env.now) c.args.var.now.0 ≡ Some c.in-Some.value.now = search rules in
    one ∙ known_column (kept_of c.args.domains.now) (env_of c.args.env.now) c.args.var.now c.in-Some.value.now is

pub returns-in-None : goal.returns-in-None
returns-in-None c =
    let is : entry_of (env_of c.args.env.now) c.args.var.now.0 ≡ None = search rules in
    subst (λ values. IfOk c.column.result (λ column. row_of column.items ≡ values)) (unknown_column (kept_of c.args.domains.now) (env_of c.args.env.now) c.args.var.now is) c.column.ensures
