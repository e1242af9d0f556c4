use Rattle.std.proofs.Common.{◌∙◌, ◌∷◌, [], List, refl, subst}
use Rattle.std.specs.Cmp.Lexicographic.{slice_cmp}
use Rattle.std.specs.List.Sorted.{IsStrictlySortedBy}
use Rattle.dbn_nodes.specs.Changes.{Leads}
use Rattle.dbn_nodes.specs.Stands.{IsPlain}
use Rattle.dbn_network.proofs.PassLaws.{same_inside}
use Rattle.dbn_network.proofs.feeds.note_at.Goals as goal

pub returns-clause-ok : goal.returns-clause-ok
returns-clause-ok g c = record {
  table = c.note.new.table;
  is = refl;
  plain = subst (λ table. (s z : List (List _)) → IsStrictlySortedBy (slice_cmp g.C.Ord.cmp) s → IsPlain g.C.Ord.cmp table s → Leads g.C.Ord.cmp s (c.args.event.now ∷ []) z → IsPlain g.C.Ord.cmp c.note.new.table z)
      (c.index_mut.ensures.value ∙ same_inside c.args.tables.now.items c.args.feed _ [] c.requires) c.in_ok-note.ensures.plain;
}
