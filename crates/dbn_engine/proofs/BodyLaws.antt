-- What a body needs of the members of a net, and what it is then.
use Rattle.std.proofs.Common.{◌≡◌, ℕ, ◌<◌, ◌≤◌, ◌^◌, false, List, [], ◌∷◌, length, get_or, Some, Result, Ok, Err, All, refl, ap, sym, subst, arith}
use Rattle.std.specs.Prelude.{IfOk}
use Rattle.std.specs.Option.{option_map}
use Rattle.std.specs.List.{AllByRecursion}
use Rattle.std.proofs.lemmas.List.Elements.{All-from_recursion}
use Rattle.dbn_value.specs.declared.member.Member.{Member}
use Rattle.dbn_net.specs.declared.decl.Decl.{Decl}
use Rattle.dbn_net.specs.Tables.{shapes}
use Rattle.dbn_net.specs.WellFormed.{WellFormed}
use Rattle.dbn_codec.specs.Bodies.{Fits, body, group_body}
use Rattle.dbn_codec.specs.Reading.{read_body, read_group}
use Rattle.dbn_core.specs.Group.{IsMember, AreMembers}
use Rattle.dbn_keeper.specs.declared.opening.Form.{Form}
use Rattle.dbn_keeper.specs.declared.opening.Form.TheVariants.{One, Two}
use Rattle.dbn_engine.specs.Steps.{is_too_old}
use Rattle.dbn_engine.specs.Obeying.{IsBody}
use Rattle.dbn_engine.proofs.NetSizes.{few_transitions, short_rows, shape_there}

pub member_number : (net : List Decl) (m : Member) → WellFormed net → IsMember net m → m.t < 2 ^ 16
member_number net m ok is = few_transitions net ok m.t is.within

pub member_short : (net : List Decl) (m : Member) → WellFormed net → IsMember net m → length m.row ≤ 80
member_short net m ok is = short_rows net m.t m.row ok is.shape

pub member_fits : (net : List Decl) (m : Member) → IsMember net m → Fits (shapes net) m
member_fits net m is = shape_there net m.t m.row is.within is.shape

each_member : (P : Member → Type 0) (net : List Decl) → ((m : Member) → IsMember net m → P m) → (members : List Member) → AreMembers net members → AllByRecursion P members
each_member P net one [] all = tt
each_member P net one (m ∷ members) all = (one m all.0, each_member P net one members all.1)

pub all_numbers : (net : List Decl) (members : List Member) → WellFormed net → AreMembers net members → All (λ m. m.t < 2 ^ 16) members
all_numbers net members ok all = All-from_recursion (λ (m : Member). m.t < 2 ^ 16) members (each_member (λ m. m.t < 2 ^ 16) net (λ m is. member_number net m ok is) members all)

pub all_short : (net : List Decl) (members : List Member) → WellFormed net → AreMembers net members → All (λ m. length m.row ≤ 80) members
all_short net members ok all = All-from_recursion (λ (m : Member). length m.row ≤ 80) members (each_member (λ m. length m.row ≤ 80) net (λ m is. member_short net m ok is) members all)

pub all_fit : (net : List Decl) (members : List Member) → AreMembers net members → AllByRecursion (Fits (shapes net)) members
all_fit net members all = each_member (Fits (shapes net)) net (λ m is. member_fits net m is) members all

-- ---- what is encoded

pub body_one : (net : List Decl) (m : Member) (bytes : List ℕ) → bytes ≡ body m → read_body (shapes net) bytes ≡ Some m → length bytes < 2 ^ 32 → IsBody net One (m ∷ []) bytes
body_one net m bytes is reads short = record { is = is; short = short; reads = ap (option_map (λ (x : Member). x ∷ [])) reads }

pub body_all : (net : List Decl) (members : List Member) (bytes : List ℕ) → bytes ≡ group_body members → read_group (shapes net) bytes ≡ Some members → length bytes < 2 ^ 32 → IsBody net Two members bytes
body_all net members bytes is reads short = record { is = is; short = short; reads = reads }

-- of a call that answers the bytes
pub ok_one : {E : Type 0} (net : List Decl) (m : Member) (r : Result (List ℕ) E) → IfOk r (λ b. b ≡ body m) → IfOk r (λ b. read_body (shapes net) b ≡ Some m) → IfOk r (λ b. length b < 2 ^ 32) → IfOk r (IsBody net One (m ∷ []))
ok_one net m (Ok bytes) is reads short = body_one net m bytes is reads short
ok_one net m (Err e) is reads short = tt

pub ok_all : {E : Type 0} (net : List Decl) (members : List Member) (r : Result (List ℕ) E) → IfOk r (λ b. b ≡ group_body members) → IfOk r (λ b. read_group (shapes net) b ≡ Some members) → IfOk r (λ b. length b < 2 ^ 32) → IfOk r (IsBody net Two members)
ok_all net members (Ok bytes) is reads short = body_all net members bytes is reads short
ok_all net members (Err e) is reads short = tt

pub single_is : (xs : List Member) (x : Member) → length xs ≡ 1 → x ≡ get_or xs 0 x → xs ≡ x ∷ []
single_is [] x one is = absurd (omega (arith, one))
single_is (y ∷ []) x one is = ap (λ (z : Member). z ∷ []) (sym is)
single_is (y ∷ z ∷ xs) x one is = absurd (omega (arith, one))

pub small_body : (net : List Decl) (form : Form) (members : List Member) (m : Member) (bytes : List ℕ) → form ≡ One → members ≡ m ∷ [] → bytes ≡ body m → read_body (shapes net) bytes ≡ Some m → length bytes < 2 ^ 32
    → (is_too_old form members ≡ false) × IsBody net form members bytes
small_body net form members m bytes old are is reads short =
    subst (λ (f : Form). (is_too_old f members ≡ false) × IsBody net f members bytes) (sym old)
    (subst (λ (l : List Member). (is_too_old One l ≡ false) × IsBody net One l bytes) (sym are) (refl, body_one net m bytes is reads short))

pub large_body : (net : List Decl) (form : Form) (members : List Member) (bytes : List ℕ) → form ≡ Two → bytes ≡ group_body members → read_group (shapes net) bytes ≡ Some members → length bytes < 2 ^ 32
    → (is_too_old form members ≡ false) × IsBody net form members bytes
large_body net form members bytes new is reads short =
    subst (λ (f : Form). (is_too_old f members ≡ false) × IsBody net f members bytes) (sym new) (refl, body_all net members bytes is reads short)
