-- The texts of a demo, line by line.
use Rattle.std.proofs.Common.{◌≡◌, ℕ, zero, suc, ◌+◌, ◌-◌, ◌*◌, ◌%◌, ◌<◌, ◌≤◌, ◌==◌, Bool, true, false, cond, List, [], ◌∷◌, ◌++◌, codes, decimal, refl, sym, ap, subst, ◌∙◌, arith, append-nil, append_assoc, add-one}
use Rattle.std.proofs.Math.Nat.{mod-add-mod, mul_comm}
use Rattle.std.specs.List.{concat}
use Rattle.dbn_top.specs.declared.generating.Generator.{Generator}
use Rattle.dbn_top.specs.Demos.{tickets, employee_line, for_each, jobs, desk_front, demo_net, choice_of, asked_after, next_line, on, commands_from, demo_commands}

-- ---- employees

for_each_none : (front : List ℕ) → for_each front 0 ≡ []
unfolding for_each
for_each_none front = refl

for_each_more : (front : List ℕ) (n : ℕ) → for_each front (n + 1) ≡ for_each front n ++ employee_line front n
unfolding for_each
for_each_more front n = ap (for_each front) (add-one n)

pub each_none : (start front : List ℕ) → start ≡ start ++ for_each front 0
each_none start front = sym (append-nil start) ∙ ap (λ (l : List ℕ). start ++ l) (sym (for_each_none front))

pub each_more : (start old new front : List ℕ) (n : ℕ) → old ≡ start ++ for_each front n → new ≡ old ++ employee_line front n → new ≡ start ++ for_each front (n + 1)
each_more start old new front n so next =
    next ∙ ap (λ (l : List ℕ). l ++ employee_line front n) so ∙ append_assoc start (for_each front n) (employee_line front n) ∙ ap (λ (l : List ℕ). start ++ l) (sym (for_each_more front n))

-- the text of the net, part by part
pub net_of : (size : ℕ) (none first second third all : List ℕ) → none ≡ [] → first ≡ none ++ concat tickets → second ≡ first ++ for_each (codes "(fact Emp ") 10 → third ≡ second ++ jobs size
    → all ≡ third ++ for_each (desk_front size) 10 → all ≡ demo_net size
unfolding demo_net
net_of size none first second third all e0 e1 e2 e3 e4 =
    e4
    ∙ ap (λ (l : List ℕ). l ++ for_each (desk_front size) 10)
    (e3 ∙ ap (λ (l : List ℕ). l ++ jobs size) (e2 ∙ ap (λ (l : List ℕ). l ++ for_each (codes "(fact Emp ") 10) (e1 ∙ ap (λ (l : List ℕ). l ++ concat tickets) e0)))

-- ---- the generator

pub drawn_as : (n a c m x : ℕ) → x ≡ (n * a) % m → (x + c) % m ≡ (a * n + c) % m
drawn_as n a c m x e = ap (λ y. (y + c) % m) e ∙ mod-add-mod (n * a) m c ∙ ap (λ y. (y + c) % m) (mul_comm n a)

few_more : (b : Bool) (asked n : ℕ) → asked ≤ n → cond b (asked + 1) asked ≤ n + 1
few_more true asked n few = omega arith
few_more false asked n few = omega arith

few_after : (number asked n : ℕ) → asked ≤ n → asked_after number asked ≤ n + 1
unfolding asked_after
few_after number asked n few = few_more (choice_of number % 4 == 0) asked n few

-- the first n commands, and the generator behind them
pub record SoFar (size n : ℕ) (text : List ℕ) (g : Generator) : Type 0 where
  pub whole : text ++ commands_from (size - n) g ≡ demo_commands size
  pub few : g.asked ≤ n

pub so_far_none : (size : ℕ) → SoFar size 0 [] (record { number = size; asked = 0 })
unfolding demo_commands
so_far_none size = record {
  whole = ap (λ (k : ℕ). commands_from k (record { number = size; asked = 0 })) (let e : size - 0 ≡ size = omega arith in e);
  few = omega arith;
}

from_more : (k : ℕ) (g : Generator) → commands_from (suc k) g ≡ next_line g ++ commands_from k (on g)
unfolding commands_from
from_more k g = refl

from_none : (g : Generator) → commands_from 0 g ≡ []
unfolding commands_from
from_none g = refl

pub so_far_more : (size n : ℕ) (text line : List ℕ) (g h : Generator) → n < size → SoFar size n text g → line ≡ next_line g → h ≡ on g → SoFar size (n + 1) (text ++ line) h
so_far_more size n text line g h less so is next = subst (SoFar size (n + 1) (text ++ line)) (sym next) (record {
  whole =
      append_assoc text line (commands_from (size - (n + 1)) (on g))
      ∙ ap (λ (l : List ℕ). text ++ (l ++ commands_from (size - (n + 1)) (on g))) is
      ∙ ap (λ (l : List ℕ). text ++ l) (sym (from_more (size - (n + 1)) g))
      ∙ ap (λ (k : ℕ). text ++ commands_from k g) (let e : suc (size - (n + 1)) ≡ size - n = omega arith in e)
      ∙ so.whole;
  few = few_after _ g.asked n so.few;
})

pub so_far_all : (size : ℕ) (text : List ℕ) (g : Generator) → SoFar size size text g → text ≡ demo_commands size
so_far_all size text g so =
    sym (append-nil text)
    ∙ ap (λ (l : List ℕ). text ++ l) (sym (from_none g))
    ∙ ap (λ (k : ℕ). text ++ commands_from k g) (let e : 0 ≡ size - size = omega arith in e)
    ∙ so.whole
