-- Replies that have a text, and what of it was written.
use Rattle.std.specs.Prelude.{◌≡◌, ℕ, List, [], ◌++◌, Option, Some, None}
use Rattle.std.specs.Io.KnownBytes.{Appends}
use Rattle.dbn_net.specs.declared.decl.Decl.{Decl}
use Rattle.dbn_command.specs.Replies.{IsReply}
use Rattle.dbn_command.specs.declared.reply.Reply.{Reply}
use Rattle.dbn_engine.specs.declared.fault.ServeFault.{ServeFault}
use Rattle.dbn_engine.specs.declared.fault.ServeFault.TheVariants.{Write}

-- there is no reply, or it has a text
abbrev pub HasText : List Decl → Option Reply → Type 0
HasText net None = Unit {0}
HasText net (Some one) = IsReply net one

-- a front of the text was written, and where writing failed, not all of it
pub record Misses (why : ServeFault) (before after : Option (List ℕ)) (text : List ℕ) : Type 0 where
  pub front : List ℕ
  pub rest : List ℕ
  pub parts : text ≡ front ++ rest
  pub wrote : Appends before after front
  pub write : why ≡ Write → rest ≡ [] → ⊥
