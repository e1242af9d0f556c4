-- What the members of a body are, and what two steps of opening keep.
use Rattle.std.proofs.Common.{◌≡◌, ℕ, ◌<◌, ◌≤◌, List, [], ◌∷◌, length, map, slice_get, Some, IsTrue, sym, subst, ◌∙◌, arith}
use Rattle.std.specs.List.{AllByRecursion}
use Rattle.dbn_value.specs.declared.member.Member.{Member}
use Rattle.dbn_value.specs.Order.{value_type}
use Rattle.dbn_net.specs.declared.decl.Decl.{Decl}
use Rattle.dbn_net.specs.Tables.{shapes}
use Rattle.dbn_codec.specs.Bodies as body
use Rattle.dbn_keeper.specs.Files.{Folder}
use Rattle.dbn_keeper.specs.Keeping.{KeeperState, Keeps, SameFiles}
use Rattle.dbn_core.specs.Group.{IsMember, AreMembers}

-- what has the shapes of the net is a member of it
abbrev pub ShapesFit : List Decl → Type 0
ShapesFit net = (m : Member) → slice_get (shapes net) m.t ≡ Some (map value_type m.row) → IsMember net m

each_fits : (net : List Decl) (members : List Member) → ShapesFit net → AllByRecursion (body.IsMember (shapes net)) members → AreMembers net members
each_fits net [] law each = tt
each_fits net (m ∷ members) law each = (law m each.0.fits, each_fits net members law each.1)

pub group_fits : (net : List Decl) (members : List Member) → ShapesFit net → body.IsGroup (shapes net) members → (0 < length members) × AreMembers net members
group_fits net members law group = (omega (arith, group.some), each_fits net members law group.each)

pub member_fits : (net : List Decl) (m : Member) → ShapesFit net → body.IsMember (shapes net) m → (0 < length (m ∷ [])) × AreMembers net (m ∷ [])
member_fits net m law one = (omega arith, (law m one.fits, tt))

pub same_files_on : (old mid new : KeeperState) → mid.honest ≡ old.honest → SameFiles old mid → SameFiles mid new → SameFiles old new
same_files_on old mid new same first second =
    let still : IsTrue old.honest → IsTrue mid.honest = λ honest. subst IsTrue (sym same) honest in
    record {
      held = second.held ∙ first.held;
      bytes = second.bytes ∙ first.bytes;
      moment = λ honest. second.moment (still honest) ∙ first.moment honest;
      image = λ honest f image. first.image honest f (second.image (still honest) f image);
      since = λ honest t f since. first.since honest t f (second.since (still honest) t f since);
      steady = λ honest t steady. second.steady (still honest) t (first.steady honest t steady);
    }

pub keeps_on : (old mid new : KeeperState) → Keeps old mid → Keeps mid new → Keeps old new
keeps_on old mid new first second = record {
  told = second.told ∙ first.told;
  honest = second.honest ∙ first.honest;
  cap = second.cap ∙ first.cap;
  last = second.last ∙ first.last;
}
