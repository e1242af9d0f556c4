-- Stores byte by byte, and what they stand for, computed.
use Rattle.std.proofs.Common.{◌≡◌, ℕ, ◌+◌, ◌^◌, true, false, List, [], ◌∷◌, ◌++◌, length, take, drop, refl}
use Rattle.std.specs.Prelude.{codes}
use Rattle.dbn_keeper.specs.Files.{Store, folder, file_of, new_store, with_body, place_behind}
use Rattle.dbn_keeper.specs.Files.Folder.{NotMade, NotAStore, Holds}
use Rattle.dbn_keeper.specs.declared.base.Base.{Base}
use Rattle.dbn_keeper.specs.declared.opening.Form.TheVariants.{One}

-- a net with one token, before the first firing
start : Base
start = record { fired = 0; next = 0; text = codes "(place P)\n(transition go (in P (1)))\n(token P 1)\n" }

-- the same net after it
fired : Base
fired = record { fired = 1; next = 0; text = codes "(place P)\n(transition go (in P (1)))\n" }

-- the file of a new store up to its first gate: the open first byte, the mark with this digit, generation 1, 0 firings, the next
-- id 0, the length 49, the text
front : ℕ → List ℕ
front digit = 219 ∷ (codes "DBN" ++ digit ∷ 0 ∷ 0 ∷ 0 ∷ 0 ∷ 0 ∷ 0 ∷ 0 ∷ 1 ∷ 0 ∷ 0 ∷ 0 ∷ 0 ∷ 0 ∷ 0 ∷ 0 ∷ 0 ∷ 0 ∷ 0 ∷ 0 ∷ 0 ∷ 0 ∷ 0 ∷ 0 ∷ 0 ∷ 0 ∷ 0 ∷ 0 ∷ 49 ∷ []) ++ codes "(place P)\n(transition go (in P (1)))\n(token P 1)\n"

old_store : List (List ℕ) → Store
old_store bodies = record { form = One; base = start; generation = 1; bodies = bodies; torn = false }

new_file : (file_of 1 start ≡ front 50 ++ 0 ∷ []) × (length (file_of 1 start) ≡ 83)
unfolding front start
new_file = (refl, refl)

no_file_open : (folder [] [] ≡ NotMade) × (folder (219 ∷ []) (0 ∷ 219 ∷ 68 ∷ []) ≡ NotMade)
no_file_open = (refl, refl)

new_store_found : (folder (file_of 1 start) [] ≡ Holds (new_store 1 start)) × (folder (front 49 ++ 0 ∷ []) [] ≡ Holds (old_store []))
unfolding front start old_store
new_store_found = (refl, refl)

-- one firing, whose body is the number of the transition in form one, and a group of that in form two
old_record : List ℕ
old_record = front 49 ++ 219 ∷ 0 ∷ 0 ∷ 0 ∷ 2 ∷ 0 ∷ 0 ∷ 0 ∷ []

new_record : List ℕ
new_record = front 50 ++ 219 ∷ 0 ∷ 0 ∷ 0 ∷ 4 ∷ 0 ∷ 1 ∷ 0 ∷ 0 ∷ 0 ∷ []

record_found : (folder old_record [] ≡ Holds (old_store ((0 ∷ 0 ∷ []) ∷ []))) × (folder new_record [] ≡ Holds (with_body (0 ∷ 1 ∷ 0 ∷ 0 ∷ []) (new_store 1 start)))
unfolding front start old_store old_record new_record
record_found = (refl, refl)

-- the gate of the record and the one behind it
gates : (place_behind 0 (old_store ((0 ∷ 0 ∷ []) ∷ [])) ≡ 82) × (place_behind 1 (old_store ((0 ∷ 0 ∷ []) ∷ [])) ≡ 89)
unfolding start old_store
gates = (refl, refl)

torn_start : Store
torn_start = record { form = One; base = start; generation = 1; bodies = []; torn = true }

-- a record that the file cuts short is damage, and a file that ends at its first gate is no store
cut_short : (folder (take 88 old_record) [] ≡ Holds torn_start) × (folder (take 89 old_record) [] ≡ Holds torn_start) × (folder (take 82 old_record) [] ≡ NotAStore)
unfolding front start old_record torn_start
cut_short = (refl, refl, refl)

-- another byte than DB ends the bodies, whatever stands behind it
other_gate : folder (front 49 ++ 23 ∷ 219 ∷ 0 ∷ []) [] ≡ Holds (old_store [])
unfolding front start old_store
other_gate = refl

-- the greater generation counts, and the first file where both have the same
after_a_checkpoint : (folder old_record (file_of 2 fired) ≡ Holds (new_store 2 fired)) × (folder (file_of 2 fired) old_record ≡ Holds (new_store 2 fired)) × (folder (file_of 1 start) (file_of 1 fired) ≡ Holds (new_store 1 start))
unfolding front start fired old_record
after_a_checkpoint = (refl, refl, refl)

new_file_of_a_checkpoint : length (file_of 2 fired) ≡ 71
unfolding fired
new_file_of_a_checkpoint = refl

-- an open file that isn't one of a store, in either place: too short, another mark, no generation
foreign : (folder (file_of 1 start) (219 ∷ 68 ∷ []) ≡ NotAStore) × (folder (front 51 ++ 0 ∷ []) (file_of 1 start) ≡ NotAStore) × (folder (file_of 0 start) [] ≡ NotAStore) × (folder [] (file_of (2 ^ 62 + 1) start) ≡ NotAStore)
unfolding front start
foreign = (refl, refl, refl, refl)

-- the second record is torn: the gate behind the first body is open, and the file ends behind the body
torn_behind : folder (take 89 old_record ++ 219 ∷ 0 ∷ 0 ∷ 0 ∷ 2 ∷ 0 ∷ 0 ∷ []) [] ≡ Holds (record { form = One; base = start; generation = 1; bodies = (0 ∷ 0 ∷ []) ∷ []; torn = true })
unfolding front start old_record
torn_behind = refl

-- a text that is longer than the file
no_base : folder (take 29 (front 50) ++ 255 ∷ 255 ∷ 255 ∷ 255 ∷ drop 33 (front 50) ++ 0 ∷ []) [] ≡ NotAStore
unfolding front start
no_base = refl
