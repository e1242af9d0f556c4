use Rattle.std.proofs.Common.{◌≡◌, ◌<◌, ◌^◌, List, ℕ, [], length, IsTrue, refl, sym, ap, subst, ◌∙◌}
use Rattle.dbn_keeper.specs.Files.{folder, file_of}
use Rattle.dbn_keeper.proofs.Makings.{made_since, allowed_small, first_store, none_or_new, same_some}
use Rattle.dbn_keeper.proofs.plain.PlainKeeper.create.Goals as goal

pub returns-in_err-make_new-clause-any_moment : goal.returns-in_err-make_new-clause-any_moment
returns-in_err-make_new-clause-any_moment g c x z told honest only none since =
    let base = c.args.base.now in
    let small : length base.text < 2 ^ 32 = allowed_small c.args.limits.now.net_bytes c.args.limits.now.file_bytes (length base.text) c.args.limits.now.net_bound (sym c.is_allowed.ensures ∙ c.if-not-is_allowed.false) in
    let work = made_since (g.D.Disk.state c.args.disk.now) (g.D.Disk.state c.settle.new.disk) (g.D.Disk.state c.make_new.new.disk) x (file_of 1 base) only (c.settle.ensures.leaves honest)
    (c.make_new.ensures.any_moment x (c.settle.ensures.same ∙ told) (subst IsTrue (sym c.settle.ensures.keeps.honest) honest)) in
    none_or_new base x [] z c.requires.0 c.requires.1 small none (work.each z since)

pub returns-clause-any_moment : goal.returns-clause-any_moment
returns-clause-any_moment g c x z told honest only none since =
    let base = c.args.base.now in
    let small : length base.text < 2 ^ 32 = allowed_small c.args.limits.now.net_bytes c.args.limits.now.file_bytes (length base.text) c.args.limits.now.net_bound (sym c.is_allowed.ensures ∙ c.if-not-is_allowed.false) in
    let work = made_since (g.D.Disk.state c.args.disk.now) (g.D.Disk.state c.settle.new.disk) (g.D.Disk.state c.make_new.new.disk) x (file_of 1 base) only (c.settle.ensures.leaves honest)
    (c.make_new.ensures.any_moment x (c.settle.ensures.same ∙ told) (subst IsTrue (sym c.settle.ensures.keeps.honest) honest)) in
    none_or_new base x [] z c.requires.0 c.requires.1 small none (work.each z since)

pub returns-clause-value : goal.returns-clause-value
returns-clause-value g c x z told held =
    let base = c.args.base.now in
    let small : length base.text < 2 ^ 32 = allowed_small c.args.limits.now.net_bytes c.args.limits.now.file_bytes (length base.text) c.args.limits.now.net_bound (sym c.is_allowed.ensures ∙ c.if-not-is_allowed.false) in
    let is : z ≡ file_of 1 base = same_some z (file_of 1 base) (sym held ∙ c.in_ok-make_new.ensures.value x (c.settle.ensures.same ∙ told)) in
    ap (λ (l : List ℕ). folder l []) is ∙ first_store base [] c.requires.0 c.requires.1 small refl

pub returns-clause-durable : goal.returns-clause-durable
returns-clause-durable g c x z told honest image =
    let base = c.args.base.now in
    let small : length base.text < 2 ^ 32 = allowed_small c.args.limits.now.net_bytes c.args.limits.now.file_bytes (length base.text) c.args.limits.now.net_bound (sym c.is_allowed.ensures ∙ c.if-not-is_allowed.false) in
    let is : z ≡ file_of 1 base = c.in_ok-make_new.ensures.durable x (c.settle.ensures.same ∙ told) (subst IsTrue (sym c.settle.ensures.keeps.honest) honest) z image in
    ap (λ (l : List ℕ). folder l []) is ∙ first_store base [] c.requires.0 c.requires.1 small refl
