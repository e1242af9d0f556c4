use Rattle.std.proofs.Common.{rules, ◌≡◌, ◌++◌, ◌∷◌, [], ap, ◌∙◌, map}
use Rattle.dbn_net.proofs.NameTables.{enters}
use Rattle.dbn_net.proofs.names.NameTable.enter.Goals as goal

pub returns-clause-ok : goal.returns-clause-ok
returns-clause-ok c =
    let whole : map (λ v. v.items) c.insert.new.self.keys ≡ map (λ v. v.items) c.self.inside.names.keys ++ c.args.name.items ∷ [] =
    ap (map (λ v. v.items)) c.in_ok-insert.ensures.keys ∙ enters (λ v. v.items) c.self.inside.names.keys c.args.name (search rules) in
    search (rules, whole)
