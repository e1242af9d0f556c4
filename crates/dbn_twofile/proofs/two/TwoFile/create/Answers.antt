use Rattle.std.proofs.Common.{false, arith, ◌≡◌, ◌<◌, ◌^◌, List, ℕ, true, length, IsTrue, sym, ap, subst, ◌∙◌}
use Rattle.dbn_keeper.specs.Creating.{IsNoneOrNew, is_made}
use Rattle.dbn_keeper.specs.Files.{folder, file_of, opening_of}
use Rattle.dbn_keeper.specs.declared.opening.Opening.TheVariants.{NotOpen}
use Rattle.dbn_keeper.proofs.Makings.{made_since, allowed_small, first_store, none_or_new, none_open, made_is, same_some}
use Rattle.dbn_twofile.proofs.Rests.{same_pair}
use Rattle.std.proofs.lemmas.Bool.{true≢false}
use Rattle.dbn_twofile.proofs.two.TwoFile.create.Goals as goal

pub returns-in_err-make_new-clause-any_moment : goal.returns-in_err-make_new-clause-any_moment
returns-in_err-make_new-clause-any_moment g c x y u v told_x told_y honest_a honest_b only_a only_b none since_u since_v =
    let base = c.args.base.now in
    let small : length base.text < 2 ^ 32 = allowed_small c.args.limits.now.net_bytes c.args.limits.now.file_bytes (length base.text) c.args.limits.now.net_bound (sym c.is_allowed.ensures ∙ c.if-not-is_allowed.false) in
    let work = made_since (g.D.Disk.state c.args.a.now) (g.D.Disk.state c.settle.new.disk) (g.D.Disk.state c.make_new.new.disk) x (file_of 1 base) only_a (c.settle.ensures.leaves honest_a)
    (c.make_new.ensures.any_moment x (c.settle.ensures.same ∙ told_x) (subst IsTrue (sym c.settle.ensures.keeps.honest) honest_a)) in
    let same : v ≡ y = only_b v ((c.settle-2.ensures.leaves honest_b).each v since_v) in
    subst (λ (l : List ℕ). IsNoneOrNew base (folder u l)) (sym same) (none_or_new base x y u c.requires.0 c.requires.1 small none (work.each u since_u))

pub returns-clause-any_moment : goal.returns-clause-any_moment
returns-clause-any_moment g c x y u v told_x told_y honest_a honest_b only_a only_b none since_u since_v =
    let base = c.args.base.now in
    let small : length base.text < 2 ^ 32 = allowed_small c.args.limits.now.net_bytes c.args.limits.now.file_bytes (length base.text) c.args.limits.now.net_bound (sym c.is_allowed.ensures ∙ c.if-not-is_allowed.false) in
    let work = made_since (g.D.Disk.state c.args.a.now) (g.D.Disk.state c.settle.new.disk) (g.D.Disk.state c.make_new.new.disk) x (file_of 1 base) only_a (c.settle.ensures.leaves honest_a)
    (c.make_new.ensures.any_moment x (c.settle.ensures.same ∙ told_x) (subst IsTrue (sym c.settle.ensures.keeps.honest) honest_a)) in
    let same : v ≡ y = only_b v ((c.settle-2.ensures.leaves honest_b).each v since_v) in
    subst (λ (l : List ℕ). IsNoneOrNew base (folder u l)) (sym same) (none_or_new base x y u c.requires.0 c.requires.1 small none (work.each u since_u))

pub returns-clause-value : goal.returns-clause-value
returns-clause-value g c x y u v told_x told_y held_a held_b =
    let base = c.args.base.now in
    let small : length base.text < 2 ^ 32 = allowed_small c.args.limits.now.net_bytes c.args.limits.now.file_bytes (length base.text) c.args.limits.now.net_bound (sym c.is_allowed.ensures ∙ c.if-not-is_allowed.false) in
    let is : u ≡ file_of 1 base = same_some u (file_of 1 base) (sym held_a ∙ c.in_ok-make_new.ensures.value x (c.settle.ensures.same ∙ told_x)) in
    let same : v ≡ y = same_some v y (sym held_b ∙ c.settle-2.ensures.same ∙ told_y) in
    let shut : opening_of y ≡ NotOpen = sym (c.in_ok-second.ensures.opening y told_y) ∙ (none_open c.in_ok-first.first c.in_ok-second.second (sym c.any_open.ensures ∙ c.if-any_open.false)).1 in
    ap (λ (l : List ℕ). folder l v) is ∙ ap (folder (file_of 1 base)) same ∙ first_store base y c.requires.0 c.requires.1 small shut

pub returns-clause-durable : goal.returns-clause-durable
returns-clause-durable g c x y u v told_x told_y honest_a honest_b image_a image_b =
    let base = c.args.base.now in
    let small : length base.text < 2 ^ 32 = allowed_small c.args.limits.now.net_bytes c.args.limits.now.file_bytes (length base.text) c.args.limits.now.net_bound (sym c.is_allowed.ensures ∙ c.if-not-is_allowed.false) in
    let is : u ≡ file_of 1 base = c.in_ok-make_new.ensures.durable x (c.settle.ensures.same ∙ told_x) (subst IsTrue (sym c.settle.ensures.keeps.honest) honest_a) u image_a in
    let same : v ≡ y = c.in_ok-second.ensures.settled y told_y honest_b v image_b in
    let shut : opening_of y ≡ NotOpen = sym (c.in_ok-second.ensures.opening y told_y) ∙ (none_open c.in_ok-first.first c.in_ok-second.second (sym c.any_open.ensures ∙ c.if-any_open.false)).1 in
    ap (λ (l : List ℕ). folder l v) is ∙ ap (folder (file_of 1 base)) same ∙ first_store base y c.requires.0 c.requires.1 small shut

pub returns-in_err-first-clause-any_moment : goal.returns-in_err-first-clause-any_moment
returns-in_err-first-clause-any_moment g c x y u v told_x told_y honest_a honest_b only_a only_b none since_u since_v =
    same_pair c.args.base.now x y u v (only_a u ((c.settle.ensures.leaves honest_a).each u since_u)) (only_b v ((g.met.D.Disk.sound c.args.b.now honest_b).only_now v since_v)) none

pub returns-then-any_open-clause-any_moment : goal.returns-then-any_open-clause-any_moment
returns-then-any_open-clause-any_moment g c x y u v told_x told_y honest_a honest_b only_a only_b none since_u since_v =
    same_pair c.args.base.now x y u v (only_a u ((c.settle.ensures.leaves honest_a).each u since_u)) (only_b v ((c.settle-2.ensures.leaves honest_b).each v since_v)) none

pub returns-then-not-is_allowed-clause-any_moment : goal.returns-then-not-is_allowed-clause-any_moment
returns-then-not-is_allowed-clause-any_moment g c x y u v told_x told_y honest_a honest_b only_a only_b none since_u since_v =
    same_pair c.args.base.now x y u v (only_a u ((c.settle.ensures.leaves honest_a).each u since_u)) (only_b v ((c.settle-2.ensures.leaves honest_b).each v since_v)) none

pub returns-then-any_open-clause-answer : goal.returns-then-any_open-clause-answer
returns-then-any_open-clause-answer g c x y told_x told_y = made_is c.in_ok-first.first c.in_ok-second.second x y true (c.in_ok-first.ensures.opening x told_x) (c.in_ok-second.ensures.opening y told_y) (sym c.any_open.ensures ∙ c.if-any_open.true)

pub returns-then-not-is_allowed-clause-answer : goal.returns-then-not-is_allowed-clause-answer
returns-then-not-is_allowed-clause-answer g c x y told_x told_y = (made_is c.in_ok-first.first c.in_ok-second.second x y false (c.in_ok-first.ensures.opening x told_x) (c.in_ok-second.ensures.opening y told_y) (sym c.any_open.ensures ∙ c.if-any_open.false), sym c.is_allowed.ensures ∙ c.if-not-is_allowed.true)

pub returns-clause-answer : goal.returns-clause-answer
returns-clause-answer g c x y told_x told_y = (made_is c.in_ok-first.first c.in_ok-second.second x y false (c.in_ok-first.ensures.opening x told_x) (c.in_ok-second.ensures.opening y told_y) (sym c.any_open.ensures ∙ c.if-any_open.false), sym c.is_allowed.ensures ∙ c.if-not-is_allowed.false)

pub returns-in_err-make_new-clause-later : goal.returns-in_err-make_new-clause-later
returns-in_err-make_new-clause-later g c x y told_x told_y honest_a honest_b =
    let first = (c.settle.ensures.leaves honest_a).later in
    let then = (c.make_new.ensures.any_moment x (c.settle.ensures.same ∙ told_x) (subst IsTrue (sym c.settle.ensures.keeps.honest) honest_a)).later in
    (omega (arith, first, then), (c.settle-2.ensures.leaves honest_b).later)

pub returns-in_err-make_new-clause-kept : goal.returns-in_err-make_new-clause-kept
returns-in_err-make_new-clause-kept g c x y told_x told_y made =
    let none : is_made (folder x y) ≡ false = made_is c.in_ok-first.first c.in_ok-second.second x y false (c.in_ok-first.ensures.opening x told_x) (c.in_ok-second.ensures.opening y told_y) (sym c.any_open.ensures ∙ c.if-any_open.false) in absurd (true≢false (sym made ∙ none))

pub returns-in_err-make_new-clause-kept_a : goal.returns-in_err-make_new-clause-kept_a
returns-in_err-make_new-clause-kept_a g c x y told_x told_y made honest =
    let none : is_made (folder x y) ≡ false = made_is c.in_ok-first.first c.in_ok-second.second x y false (c.in_ok-first.ensures.opening x told_x) (c.in_ok-second.ensures.opening y told_y) (sym c.any_open.ensures ∙ c.if-any_open.false) in absurd (true≢false (sym made ∙ none))

pub returns-clause-later : goal.returns-clause-later
returns-clause-later g c x y told_x told_y honest_a honest_b =
    let first = (c.settle.ensures.leaves honest_a).later in
    let then = (c.make_new.ensures.any_moment x (c.settle.ensures.same ∙ told_x) (subst IsTrue (sym c.settle.ensures.keeps.honest) honest_a)).later in
    (omega (arith, first, then), (c.settle-2.ensures.leaves honest_b).later)

pub returns-clause-kept : goal.returns-clause-kept
returns-clause-kept g c x y told_x told_y made =
    let none : is_made (folder x y) ≡ false = made_is c.in_ok-first.first c.in_ok-second.second x y false (c.in_ok-first.ensures.opening x told_x) (c.in_ok-second.ensures.opening y told_y) (sym c.any_open.ensures ∙ c.if-any_open.false) in absurd (true≢false (sym made ∙ none))

pub returns-clause-kept_a : goal.returns-clause-kept_a
returns-clause-kept_a g c x y told_x told_y made honest =
    let none : is_made (folder x y) ≡ false = made_is c.in_ok-first.first c.in_ok-second.second x y false (c.in_ok-first.ensures.opening x told_x) (c.in_ok-second.ensures.opening y told_y) (sym c.any_open.ensures ∙ c.if-any_open.false) in absurd (true≢false (sym made ∙ none))

pub returns-clause-settled_a : goal.returns-clause-settled_a
returns-clause-settled_a g c x u told honest held d image =
    let base = c.args.base.now in
    let is : u ≡ file_of 1 base = same_some u (file_of 1 base) (sym held ∙ c.in_ok-make_new.ensures.value x (c.settle.ensures.same ∙ told)) in
    c.in_ok-make_new.ensures.durable x (c.settle.ensures.same ∙ told) (subst IsTrue (sym c.settle.ensures.keeps.honest) honest) d image ∙ sym is

pub returns-clause-settled_b : goal.returns-clause-settled_b
returns-clause-settled_b g c y v told honest held d image =
    let same : v ≡ y = same_some v y (sym held ∙ c.settle-2.ensures.same ∙ told) in
    c.in_ok-second.ensures.settled y told honest d image ∙ sym same
