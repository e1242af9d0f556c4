-- Each kind of node on a worked example: rows of numbers.
use Rattle.std.proofs.Common.{◌≡◌, ℕ, List, [], ◌∷◌, refl}
use Rattle.std.specs.Ordering.{nat_cmp}
use Rattle.dbn_value.specs.declared.term.Cmp.TheVariants as cmp
use Rattle.dbn_nodes.specs.declared.node.ColTest.TheVariants as test
use Rattle.dbn_nodes.specs.declared.node.Added.TheVariants as added
use Rattle.dbn_nodes.specs.declared.node.Node.TheVariants as node
use Rattle.dbn_nodes.specs.declared.event.Event.TheVariants as event
use Rattle.dbn_nodes.specs.Values.{value_of}
use Rattle.dbn_nodes.specs.Changes.{Leads}

abbrev pairs : List (List ℕ)
pairs = (1 ∷ 5 ∷ []) ∷ (2 ∷ 5 ∷ []) ∷ (3 ∷ 3 ∷ []) ∷ []

abbrev singles : List (List ℕ)
singles = (3 ∷ []) ∷ (5 ∷ []) ∷ []

unit : value_of nat_cmp node.Unit [] [] ≡ [] ∷ []
unit = refl

select : value_of nat_cmp (node.Select 0 (test.Columns cmp.Eq 0 1 ∷ [])) pairs [] ≡ (3 ∷ 3 ∷ []) ∷ []
select = refl

select_constant : value_of nat_cmp (node.Select 0 (test.Constant cmp.Lt 0 3 ∷ [])) pairs [] ≡ (1 ∷ 5 ∷ []) ∷ (2 ∷ 5 ∷ []) ∷ []
select_constant = refl

join : value_of nat_cmp (node.Join 0 1 ((1, 0) ∷ [])) pairs singles ≡ (1 ∷ 5 ∷ 5 ∷ []) ∷ (2 ∷ 5 ∷ 5 ∷ []) ∷ (3 ∷ 3 ∷ 3 ∷ []) ∷ []
join = refl

diff : value_of nat_cmp (node.Diff 0 1) singles ((4 ∷ []) ∷ (5 ∷ []) ∷ []) ≡ (3 ∷ []) ∷ []
diff = refl

project : value_of nat_cmp (node.Project 0 (1 ∷ [])) pairs [] ≡ singles
project = refl

union : value_of nat_cmp (node.Union 0 1) singles ((4 ∷ []) ∷ (5 ∷ []) ∷ []) ≡ (3 ∷ []) ∷ (4 ∷ []) ∷ (5 ∷ []) ∷ []
union = refl

extend : value_of nat_cmp (node.Extend 0 (added.Copied 0)) singles [] ≡ (3 ∷ 3 ∷ []) ∷ (5 ∷ 5 ∷ []) ∷ []
extend = refl

-- one row comes and another goes
events : Leads nat_cmp singles (event.Plus (4 ∷ []) ∷ event.Minus (5 ∷ []) ∷ []) ((3 ∷ []) ∷ (4 ∷ []) ∷ [])
events = (refl, (refl, refl))
