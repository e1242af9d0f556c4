-- What a keeper in memory means.
use Rattle.std.proofs.Common.{◌≡◌, ℕ, ◌+◌, ◌^◌, ◌≤◌, Bool, true, false, List, [], ◌∷◌, ◌++◌, length, take, None, Some, refl, sym, ap, ◌∙◌, arith, length-append}
use Rattle.std.proofs.lemmas.List.{take_at}
use Rattle.dbn_keeper.specs.Files.{Store, Folder, space, place_behind}
use Rattle.dbn_keeper.specs.Files.Folder.{Holds}
use Rattle.dbn_keeper.specs.Keeping.{KeeperState, Steps, IsSound, IsSettled}
use Rattle.dbn_keeper.specs.declared.base.Base.{Base}
use Rattle.dbn_keeper.specs.declared.opening.Form.TheVariants.{Two}

abbrev pub mem_store : Base → ℕ → List (List ℕ) → Store
mem_store base generation bodies = record { form = Two; base = base; generation = generation; bodies = bodies; torn = false }

-- there is no file, no clock and no fault: what is held is the one image, now and since each moment
abbrev pub mem_state : Base → ℕ → List (List ℕ) → Bool → KeeperState
mem_state base generation bodies live = record {
  form = Two;
  base = base;
  generation = generation;
  last = 2 ^ 62;
  cap = None;
  live = live;
  records = length bodies;
  place = 33 + length base.text + space bodies;
  at_end = true;
  held = Some (Holds (mem_store base generation bodies));
  bytes = [];
  honest = true;
  image = λ f. f ≡ Holds (mem_store base generation bodies);
  since = λ t f. f ≡ Holds (mem_store base generation bodies);
  steady = λ t. Unit {0};
  moment = [];
  faults = [];
}

pub mem_sound : (base : Base) (generation : ℕ) (bodies : List (List ℕ)) (live : Bool) → IsSound (mem_state base generation bodies live)
mem_sound base generation bodies live = record { now = λ t f before image. image; only_now = λ f since. since }

some_folder : (a b : Folder) → Some a ≡ Some b → a ≡ b
some_folder a b e = cc

some_store : (a b : Store) → Some (Holds a) ≡ Some (Holds b) → a ≡ b
some_store a b e = cc

pub mem_settled : (base : Base) (generation : ℕ) (bodies : List (List ℕ)) (live : Bool) → (base.fired ≤ 2 ^ 62) × (base.next ≤ 2 ^ 62) → IsSettled (mem_state base generation bodies live)
mem_settled base generation bodies live numbers =
    let here : Store = mem_store base generation bodies in record {
      held = λ f told. (bodies, false, sym (some_folder (Holds here) f told));
      image = λ f g told honest image. image ∙ some_folder (Holds here) f told;
      steady = λ f told honest. tt;
      counted = λ store told. let same : here ≡ store = some_store here store told in
          let long : length bodies ≡ length store.bodies = ap (λ (s : Store). length s.bodies) same in omega (arith, long);
      reached = λ store told. let same : here ≡ store = some_store here store told in
          ap (λ (l : List (List ℕ)). 33 + length base.text + space l) (sym (take_at bodies [] (length bodies) refl) ∙ ap (take (length bodies)) (append_nil bodies))
          ∙ ap (place_behind (length bodies)) same;
      ended = λ store told end. let same : here ≡ store = some_store here store told in
          (ap (λ (s : Store). s.torn) (sym same), ap (λ (s : Store). length s.bodies) (sym same));
      numbers = numbers;
      placed = λ e. cc;
    }
  where
    append_nil : (l : List (List ℕ)) → l ++ [] ≡ l
    append_nil [] = refl
    append_nil (x ∷ xs) = ap (λ (l : List (List ℕ)). x ∷ l) (append_nil xs)

space_more : (bodies : List (List ℕ)) (body : List ℕ) → space (bodies ++ body ∷ []) ≡ space bodies + 5 + length body
space_more [] body = omega arith
space_more (first ∷ bodies) body = omega (arith, space_more bodies body)

pub mem_steps : (base : Base) (generation : ℕ) (bodies new : List (List ℕ)) (body : List ℕ) (live live' : Bool) → new ≡ bodies ++ body ∷ [] → Steps (mem_state base generation bodies live) (mem_state base generation new live') (length body)
mem_steps base generation bodies new body live live' is = record {
  place = ap (λ (l : List (List ℕ)). 33 + length base.text + space l) is ∙ omega (arith, space_more bodies body);
  records = ap length is ∙ omega (arith, length-append bodies (body ∷ []));
}
