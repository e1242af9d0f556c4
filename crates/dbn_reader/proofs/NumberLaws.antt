-- Numbers of names are in range, and what stands there.
use Rattle.std.proofs.Common.{◌≡◌, ℕ, ◌<◌, Bool, true, false, List, ap, sym, ◌∙◌, subst, Option, Some, None, length}
use Rattle.std.specs.Prelude.{slice_get}
use Rattle.std.proofs.lemmas.List.{length-map}
use Rattle.dbn_net.specs.declared.decl.Place.{Place}
use Rattle.dbn_net.specs.declared.decl.Decl.{Decl}
use Rattle.dbn_net.specs.Maybe.{◌>>=◌}
use Rattle.dbn_net.specs.Forms.{Name}
use Rattle.dbn_net.specs.Tables.{Table, relation_names, query_names, action_names, place_names, place_name, relations, queries, actions, places}
use Rattle.dbn_net.specs.Naming.{number_of, site_if, control_number, view_number}
use Rattle.dbn_net.proofs.NamedLaws.{number_within}

pub place_within : (net : List Decl) (name : Name) (n : ℕ) → number_of (place_names net) name ≡ Some n → n < length (places net)
place_within net name n e = subst (λ (k : ℕ). n < k) (length-map (places net) place_name) (number_within (place_names net) name n e)

pub relation_within : (net : List Decl) (name : Name) (n : ℕ) → number_of (relation_names net) name ≡ Some n → n < length (relations net)
relation_within net name n e = subst (λ (k : ℕ). n < k) (length-map (relations net) _) (number_within (relation_names net) name n e)

pub ruleset number_laws = (place_within, relation_within)
