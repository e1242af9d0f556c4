use Rattle.std.proofs.Common.{◌≡◌, [], IfOk, ap, ◌∙◌}
use Rattle.std.proofs.lemmas.Result.{IfOk-weaker}
use Rattle.std.specs.List.{flat_map}
use Rattle.dbn_value.specs.Ascending.{ascending}
use Rattle.dbn_value.specs.Order.{row_cmp}
use Rattle.dbn_formula.specs.Solve.{solutions_over}
use Rattle.dbn_scratch.specs.Envs.{env_of, envs_of}
use Rattle.dbn_scratch.specs.Given.{rows_given, kept_of}
use Rattle.dbn_scratch.specs.Prepared.{domain_of}
use Rattle.dbn_scratch.proofs.FoundLaws.{from_none}
use Rattle.dbn_scratch.proofs.TurnLaws.{products_found}
use Rattle.dbn_scratch.proofs.answering.product_rows.Goals as goal

pub returns : goal.returns
returns c =
    let found : envs_of c.add_solutions.new.out ≡ solutions_over (domain_of c.args.tables.now) c.args.tables.now.instance.now c.args.solved.now [] =
    from_none c.new-found.result c.add_solutions.new.out (solutions_over (domain_of c.args.tables.now) c.args.tables.now.instance.now c.args.solved.now []) c.new-found.ensures c.in_ok-add_solutions.ensures.solutions in
    let made : c.add_products.new.set.keys ≡ ascending row_cmp (flat_map (λ e. rows_given (kept_of c.args.domains.now) c.args.vars.now (env_of e.items)) c.add_solutions.new.out) =
    c.in_ok-add_products.ensures ∙ ap (λ es. ascending row_cmp (flat_map (λ e. rows_given (kept_of c.args.domains.now) c.args.vars.now (env_of e.items)) es)) c.as_slice.ensures in
    let told : IfOk c.listed.result (λ rows. rows ≡ c.add_products.new.set.keys) = c.listed.ensures in
    IfOk-weaker c.listed.result _ _ (λ rows e. e ∙ products_found (kept_of c.args.domains.now) c.args.vars.now c.add_solutions.new.out (solutions_over (domain_of c.args.tables.now) c.args.tables.now.instance.now c.args.solved.now []) c.add_products.new.set.keys found made) told
