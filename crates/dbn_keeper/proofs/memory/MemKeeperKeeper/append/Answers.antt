use Rattle.std.proofs.Common.{◌≡◌, ◌++◌, ◌∷◌, [], true, arith}
use Rattle.std.proofs.lemmas.Grind.{common_steps}
use Rattle.dbn_keeper.specs.Memory.{mem_steps}
use Rattle.dbn_keeper.proofs.memory.MemKeeperKeeper.append.Goals as goal

pub returns-clause-place : goal.returns-clause-place
returns-clause-place c =
    let new : c.push.new.self.items ≡ c.args.self.now.bodies.items ++ c.args.body.now ∷ [] = grind (arith, common_steps) in
    mem_steps c.args.self.now.base c.args.self.now.generation c.args.self.now.bodies.items c.push.new.self.items c.args.body.now c.args.self.now.live true new
