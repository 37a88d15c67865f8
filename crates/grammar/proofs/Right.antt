-- The parser is right, for expressions and conditions. What a reader took are the tokens of its tree; where it stops, the machine is stuck, and what was read so far can be completed.
use Prim.Native.Nat.{ℕ, zero, suc, ◌+◌, ◌*◌, ◌≤◌, ◌<◌}
use mathlib.Core.Path.{◌≡◌, refl, sym, ap, ◌∙◌}
use mathlib.Core.Bool.{Bool, true, false}
use mathlib.Core.List.{List, ◌∷◌, ◌++◌, append_assoc}
use mathlib.Core.Option.{none}
use native.Mathlib.Numerals.{add-one}
use native.Mathlib.Nat.{le_trans, le_refl}
use native.Mathlib.Omega.{arith}
use native.Mathlib.Decide.{dec_lt}
use lib.ListN.{length, get_or, take, drop}
use lib.Seq.{take-suc, drop-cons}
use lib.Dec.{eqb}
use borrow.Author.Tests.{eqb-true, eqb-false}
use Rattle.syntax.specs.Token.{k_name, k_number, k_open, k_close, k_comma, k_plus, k_minus, k_times, k_true, k_false, k_and, k_or, k_less, k_equal, k_less_eq, k_greater, k_greater_eq, k_unequal}
use Rattle.syntax.specs.Tree.{Cat, Tree, onto}
use Rattle.syntax.specs.Tree.{term, sum, arg_list, conj, cond, less}
use Rattle.syntax.specs.Tree.{number, negative, call, bracket, some_args, first_arg, next_arg, factor, product, times, addend, plus, minus, cmp_mark, compare, one_atom, both, one_conj, either}
use Rattle.grammar.proofs.Machine.{Stack, stuck, step, run, go_on}
use Rattle.grammar.proofs.Machine.{tok, s_operand, s_term, s_terms, s_sum, s_sums, s_call, s_args, s_more, s_cmp, s_atom, s_conj, s_conjs, s_cond, s_conds}
use Rattle.grammar.specs.Parse.{Res, ok, bad, and_then, peek, read_operand, read_bracket, read_call, read_args, more_args, read_term, more_term, read_sum, more_sum, read_cmp, read_atom, more_conj, read_conj, more_cond, read_cond}

module _ (ks : List ℕ) (ends : (a : ℕ) → suc a ≡ length ks → get_or ks a 0 ≡ 0) where
  -- the first a tokens, then r
  abbrev pub upto : ℕ → List ℕ → List ℕ
  upto a r = take a ks ++ r

  pub record Ok {c : Cat} (b : ℕ) (S : Stack → Stack) (at : ℕ) (t : Tree c) (m : ℕ) : Type 0 where
    pub past : at ≤ m
    pub inside : m < length ks
    pub read : (r : List ℕ) → upto m r ≡ upto b (onto t r)
    pub ran : (ss : Stack) → run (S ss) (drop at ks) ≡ run ss (drop m ks)

  pub record Bad (c : Cat) (b : ℕ) (S : Stack → Stack) (at m : ℕ) : Type 0 where
    pub inside : m < length ks
    pub whole : Tree c
    pub rest : List ℕ → List ℕ
    pub read : (r : List ℕ) → upto m (rest r) ≡ upto b (onto whole r)
    pub ran : (ss : Stack) → run (S ss) (drop at ks) ≡ stuck (drop m ks)

  -- b is where the tree begins, at where the reader does; S is what the machine expects there
  pub data Reads {c : Cat} (b : ℕ) (S : Stack → Stack) (at : ℕ) : Res c → Type 0 where
    good : {t : Tree c} {m : ℕ} → Ok b S at t m → Reads b S at (ok t m)
    wrong : {m : ℕ} → Bad c b S at m → Reads b S at (bad m)

  -- the token k stands at a, and it is not the end
  pub record Eat (a k : ℕ) : Type 0 where
    pub inside : a + 1 < length ks
    pub read : (r : List ℕ) → upto (a + 1) r ≡ upto a (k ∷ r)
    pub ahead : drop a ks ≡ k ∷ drop (a + 1) ks

  pub head : (a : ℕ) → a < length ks → drop a ks ≡ peek ks a ∷ drop (a + 1) ks
  head a h = rw (add-one, drop-cons ks a 0)

  not_last : (a : ℕ) → a < length ks → (peek ks a ≡ 0 → ⊥) → a + 1 < length ks
  not_last a h f = go (dec_lt (a + 1) (length ks))
    where
      go : Dec (a + 1 < length ks) → a + 1 < length ks
      go (yes p) = p
      go (no p) = absurd (f (ends a (omega (arith, p))))

  pub eat : (a k : ℕ) → a < length ks → eqb (peek ks a) k ≡ true → eqb k 0 ≡ false → Eat a k
  eat a k h e z =
      let q : peek ks a ≡ k = eqb-true _ _ e in
      record {
        inside = not_last a h (λ p. eqb-false k 0 z (sym q ∙ p));
        read = λ r. rw (add-one, take-suc ks a 0, append_assoc, q);
        ahead = head a h ∙ ap (λ (x : ℕ). x ∷ drop (a + 1) ks) q;
      }

  pub move : {c : Cat} {b at m : ℕ} {S S' : Stack → Stack} {r : Res c} → at ≤ m → ((ss : Stack) → run (S ss) (drop at ks) ≡ run (S' ss) (drop m ks)) → Reads b S' m r → Reads b S at r
  move l e (good k) = good (record { past = le_trans l k.past; inside = k.inside; read = k.read; ran = λ ss. e ss ∙ k.ran ss })
  move l e (wrong k) = wrong (record { inside = k.inside; whole = k.whole; rest = k.rest; read = k.read; ran = λ ss. e ss ∙ k.ran ss })

  pub eat_then : {c : Cat} {b at k : ℕ} {S S' : Stack → Stack} {r : Res c} → Eat at k → ((ss : Stack) (r : List ℕ) → run (S ss) (k ∷ r) ≡ run (S' ss) r) → Reads b S' (at + 1) r → Reads b S at r
  eat_then {at = at} {S = S} x e k = move (omega arith) (λ ss. ap (run (S ss)) x.ahead ∙ e ss (drop (at + 1) ks)) k

  pub done : {c : Cat} {b m : ℕ} {t : Tree c} → m < length ks → ((r : List ℕ) → upto m r ≡ upto b (onto t r)) → Reads b (λ ss. ss) m (ok t m)
  done i e = good (record { past = le_refl _; inside = i; read = e; ran = λ ss. refl })

  -- a symbol that the next token leaves out
  pub skip : {c : Cat} {b m : ℕ} {S S' : Stack → Stack} {r : Res c} → m < length ks → ((ss : Stack) → step (peek ks m) (S ss) ≡ step (peek ks m) (S' ss)) → Reads b S' m r → Reads b S m r
  unfolding run
  skip {m = m} {S = S} {S' = S'} i e k = move (le_refl _) (λ ss. ap (run (S ss)) (head m i) ∙ ap (λ o. go_on o (stuck (peek ks m ∷ drop (m + 1) ks)) (λ s. run s (drop (m + 1) ks))) (e ss) ∙ sym (ap (run (S' ss)) (head m i))) k

  pub stop : {c : Cat} {b m : ℕ} {S : Stack → Stack} → m < length ks → (t : Tree c) (w : List ℕ → List ℕ) → ((r : List ℕ) → upto m (w r) ≡ upto b (onto t r)) → ((ss : Stack) → step (peek ks m) (S ss) ≡ none) → Reads {c = c} b S m (bad m)
  unfolding run
  stop {m = m} {S = S} i t w e n = wrong (record { inside = i; whole = t; rest = w; read = e; ran = λ ss. ap (run (S ss)) (head m i) ∙ ap (λ o. go_on o (stuck (peek ks m ∷ drop (m + 1) ks)) (λ s. run s (drop (m + 1) ks))) (n ss) ∙ sym (ap stuck (head m i)) })

  pub split : {c : Cat} {b at : ℕ} {S : Stack → Stack} (t : Bool) {x y : Res c} → (t ≡ true → Reads b S at x) → (t ≡ false → Reads b S at y) → Reads {c = c} b S at (elim t [ true ↦ x | false ↦ y ])
  split true f g = f refl
  split false f g = g refl

  join : {c e : Cat} {b₁ b at m : ℕ} {S₁ S₂ : Stack → Stack} {t : Tree e} {r : Res c} → Ok b₁ S₁ at t m → Reads b S₂ m r → Reads b (λ ss. S₁ (S₂ ss)) at r
  join {S₂ = S₂} h (good k) = good (record { past = le_trans h.past k.past; inside = k.inside; read = k.read; ran = λ ss. h.ran (S₂ ss) ∙ k.ran ss })
  join {S₂ = S₂} h (wrong k) = wrong (record { inside = k.inside; whole = k.whole; rest = k.rest; read = k.read; ran = λ ss. h.ran (S₂ ss) ∙ k.ran ss })

  -- one reader, and another after it. Where the first stops, its tree is wrapped, and `tail` is what is then missing
  pub after : {c e : Cat} {b₁ b₂ at : ℕ} {S₁ S₂ : Stack → Stack} {r : Res c} {f : Tree c → ℕ → Res e}
      → (wrap : Tree c → Tree e) (tail : List ℕ → List ℕ) → ((t : Tree c) (r : List ℕ) → upto b₁ (onto t (tail r)) ≡ upto b₂ (onto (wrap t) r))
      → Reads b₁ S₁ at r
      → ((t : Tree c) (m : ℕ) → Ok b₁ S₁ at t m → Reads b₂ S₂ m (f t m))
      → Reads b₂ (λ ss. S₁ (S₂ ss)) at (and_then r f)
  after wrap tail w (good {t} {m} h) g = join h (g t m h)
  after {S₂ = S₂} wrap tail w (wrong h) g = wrong (record {
    inside = h.inside;
    whole = wrap h.whole;
    rest = λ r. h.rest (tail r);
    read = λ r. h.read (tail r) ∙ w h.whole r;
    ran = λ ss. h.ran (S₂ ss);
  })

  abbrev pub Fuel : ℕ → ℕ → ℕ → Type 0
  Fuel c d at = 8 * length ks + c ≤ d + 8 * at

  mutual
    unfolding read_operand onto run step

    pub operand-right : (d at : ℕ) → at < length ks → Fuel 2 d at → Reads at (λ ss. s_operand ∷ ss) at (read_operand ks d at)
    operand-right zero at i f = absurd (omega arith)
    operand-right (suc d) at i f =
        split (eqb (peek ks at) k_number)
        (λ e. let x = eat at k_number i e refl in eat_then x (λ ss r. refl) (done x.inside x.read))
        (λ e₁. split (eqb (peek ks at) k_minus)
        (λ e. let x = eat at k_minus i e refl in eat_then {S' = λ ss. tok k_number ∷ ss} x (λ ss r. refl)
        (split (eqb (peek ks (at + 1)) k_number)
        (λ e'. let y = eat (at + 1) k_number x.inside e' refl in eat_then y (λ ss r. refl) (done y.inside (λ r. y.read r ∙ x.read (k_number ∷ r))))
        (λ e'. stop x.inside (negative 0) (λ r. k_number ∷ r) (λ r. x.read (k_number ∷ r)) (λ ss. rw e'))))
        (λ e₂. split (eqb (peek ks at) k_name)
        (λ e. let x = eat at k_name i e refl in eat_then {S' = λ ss. s_call ∷ ss} x (λ ss r. refl) (call-right d at x (omega arith)))
        (λ e₃. split (eqb (peek ks at) k_open)
        (λ e. let x = eat at k_open i e refl in eat_then {S' = λ ss. s_sum ∷ tok k_close ∷ ss} x (λ ss r. refl) (bracket-right d at x (omega arith)))
        (λ e₄. stop i (number 0) (λ r. k_number ∷ r) (λ r. refl) (λ ss. rw (e₁, e₂, e₃, e₄))))))

    bracket-right : (d at : ℕ) → Eat at k_open → Fuel 1 d at → Reads at (λ ss. s_sum ∷ tok k_close ∷ ss) (at + 1) (read_bracket ks d at)
    bracket-right zero at x f = absurd (omega (arith, x.inside))
    bracket-right (suc d) at x f =
        after (bracket at) (λ r. k_close ∷ r) (λ t r. x.read (onto t (k_close ∷ r))) (sum-right d (at + 1) x.inside (omega arith))
        (λ t m h. split (eqb (peek ks m) k_close)
        (λ e'. let y = eat m k_close h.inside e' refl in eat_then y (λ ss r. refl) (done y.inside (λ r. y.read r ∙ h.read (k_close ∷ r) ∙ x.read (onto t (k_close ∷ r)))))
        (λ e'. stop h.inside (bracket at t) (λ r. k_close ∷ r) (λ r. h.read (k_close ∷ r) ∙ x.read (onto t (k_close ∷ r))) (λ ss. rw e')))

    call-right : (d at : ℕ) → Eat at k_name → Fuel 1 d at → Reads at (λ ss. s_call ∷ ss) (at + 1) (read_call ks d at)
    call-right zero at x f = absurd (omega (arith, x.inside))
    call-right (suc d) at x f =
        split (eqb (peek ks (at + 1)) k_open)
        (λ e. let y = eat (at + 1) k_open x.inside e refl in eat_then {S' = λ ss. s_args ∷ ss} y (λ ss r. refl)
        (after (call 0) (λ r. r) (λ t r. y.read (onto t r) ∙ x.read (k_open ∷ onto t r)) (args-right d (at + 1 + 1) y.inside (omega arith))
        (λ t m h. done h.inside (λ r. h.read r ∙ y.read (onto t r) ∙ x.read (k_open ∷ onto t r)))))
        (λ e. skip x.inside (λ ss. rw e) (done x.inside x.read))

    args-right : (d at : ℕ) → at < length ks → Fuel 5 d at → Reads at (λ ss. s_args ∷ ss) at (read_args ks d at)
    args-right zero at i f = absurd (omega arith)
    args-right (suc d) at i f =
        split (eqb (peek ks at) k_close)
        (λ e. let x = eat at k_close i e refl in eat_then x (λ ss r. refl) (done x.inside x.read))
        (λ e. skip {S' = λ ss. s_sum ∷ s_more ∷ ss} i (λ ss. rw e)
        (after (λ t. some_args (first_arg t)) (λ r. k_close ∷ r) (λ t r. refl) (sum-right d at i (omega arith))
        (λ t m h. more-args d (first_arg t) at m h.inside h.read (omega (arith, h.past)))))

    more-args : (d : ℕ) (l : Tree arg_list) (b at : ℕ) → at < length ks → ((r : List ℕ) → upto at r ≡ upto b (onto l r)) → Fuel 1 d at → Reads b (λ ss. s_more ∷ ss) at (more_args ks d l at)
    more-args zero l b at i w f = absurd (omega arith)
    more-args (suc d) l b at i w f =
        split (eqb (peek ks at) k_comma)
        (λ e. let x = eat at k_comma i e refl in eat_then {S' = λ ss. s_sum ∷ s_more ∷ ss} x (λ ss r. refl)
        (after (λ t. some_args (next_arg l t)) (λ r. k_close ∷ r) (λ t r. x.read _ ∙ w _) (sum-right d (at + 1) x.inside (omega arith))
        (λ t m h. more-args d (next_arg l t) b m h.inside (λ r. h.read r ∙ x.read _ ∙ w _) (omega (arith, h.past)))))
        (λ e₁. split (eqb (peek ks at) k_close)
        (λ e. let x = eat at k_close i e refl in eat_then x (λ ss r. refl) (done x.inside (λ r. x.read r ∙ w _)))
        (λ e₂. stop i (some_args l) (λ r. k_close ∷ r) (λ r. w _) (λ ss. rw (e₁, e₂))))

    pub term-right : (d at : ℕ) → at < length ks → Fuel 3 d at → Reads at (λ ss. s_term ∷ ss) at (read_term ks d at)
    term-right zero at i f = absurd (omega arith)
    term-right (suc d) at i f = skip {S' = λ ss. s_operand ∷ s_terms ∷ ss} i (λ ss. refl)
        (after factor (λ r. r) (λ t r. refl) (operand-right d at i (omega arith))
        (λ t m h. more-term d (factor t) at m h.inside h.read (omega (arith, h.past))))

    more-term : (d : ℕ) (l : Tree term) (b at : ℕ) → at < length ks → ((r : List ℕ) → upto at r ≡ upto b (onto l r)) → Fuel 1 d at → Reads b (λ ss. s_terms ∷ ss) at (more_term ks d l at)
    more-term zero l b at i w f = absurd (omega arith)
    more-term (suc d) l b at i w f =
        split (eqb (peek ks at) k_times)
        (λ e. let x = eat at k_times i e refl in eat_then {S' = λ ss. s_operand ∷ s_terms ∷ ss} x (λ ss r. refl)
        (after (times product l) (λ r. r) (λ t r. x.read _ ∙ w _) (operand-right d (at + 1) x.inside (omega arith))
        (λ t m h. more-term d (times product l t) b m h.inside (λ r. h.read r ∙ x.read _ ∙ w _) (omega (arith, h.past)))))
        (λ e. skip i (λ ss. rw e) (done i w))

    pub sum-right : (d at : ℕ) → at < length ks → Fuel 4 d at → Reads at (λ ss. s_sum ∷ ss) at (read_sum ks d at)
    sum-right zero at i f = absurd (omega arith)
    sum-right (suc d) at i f = skip {S' = λ ss. s_term ∷ s_sums ∷ ss} i (λ ss. refl)
        (after addend (λ r. r) (λ t r. refl) (term-right d at i (omega arith))
        (λ t m h. more-sum d (addend t) at m h.inside h.read (omega (arith, h.past))))

    more-sum : (d : ℕ) (l : Tree sum) (b at : ℕ) → at < length ks → ((r : List ℕ) → upto at r ≡ upto b (onto l r)) → Fuel 1 d at → Reads b (λ ss. s_sums ∷ ss) at (more_sum ks d l at)
    more-sum zero l b at i w f = absurd (omega arith)
    more-sum (suc d) l b at i w f =
        split (eqb (peek ks at) k_plus)
        (λ e. let x = eat at k_plus i e refl in eat_then {S' = λ ss. s_term ∷ s_sums ∷ ss} x (λ ss r. refl)
        (after (plus l) (λ r. r) (λ t r. x.read _ ∙ w _) (term-right d (at + 1) x.inside (omega arith))
        (λ t m h. more-sum d (plus l t) b m h.inside (λ r. h.read r ∙ x.read _ ∙ w _) (omega (arith, h.past)))))
        (λ e₁. split (eqb (peek ks at) k_minus)
        (λ e. let x = eat at k_minus i e refl in eat_then {S' = λ ss. s_term ∷ s_sums ∷ ss} x (λ ss r. refl)
        (after (minus l) (λ r. r) (λ t r. x.read _ ∙ w _) (term-right d (at + 1) x.inside (omega arith))
        (λ t m h. more-sum d (minus l t) b m h.inside (λ r. h.read r ∙ x.read _ ∙ w _) (omega (arith, h.past)))))
        (λ e₂. skip i (λ ss. rw (e₁, e₂)) (done i w)))

  cmp-right : (at : ℕ) → at < length ks → Reads at (λ ss. s_cmp ∷ ss) at (read_cmp ks at)
  unfolding read_cmp onto run step
  cmp-right at i =
      split (eqb (peek ks at) k_less)
      (λ e. let x = eat at k_less i e refl in eat_then x (λ ss r. refl) (done x.inside x.read))
      (λ e1. split (eqb (peek ks at) k_less_eq)
      (λ e. let x = eat at k_less_eq i e refl in eat_then x (λ ss r. refl) (done x.inside x.read))
      (λ e2. split (eqb (peek ks at) k_greater)
      (λ e. let x = eat at k_greater i e refl in eat_then x (λ ss r. refl) (done x.inside x.read))
      (λ e3. split (eqb (peek ks at) k_greater_eq)
      (λ e. let x = eat at k_greater_eq i e refl in eat_then x (λ ss r. refl) (done x.inside x.read))
      (λ e4. split (eqb (peek ks at) k_equal)
      (λ e. let x = eat at k_equal i e refl in eat_then x (λ ss r. refl) (done x.inside x.read))
      (λ e5. split (eqb (peek ks at) k_unequal)
      (λ e. let x = eat at k_unequal i e refl in eat_then x (λ ss r. refl) (done x.inside x.read))
      (λ e6. stop i (cmp_mark less) (λ r. k_less ∷ r) (λ r. refl) (λ ss. rw (e1, e2, e3, e4, e5, e6))))))))

  atom-right : (d at : ℕ) → at < length ks → Fuel 5 d at → Reads at (λ ss. s_atom ∷ ss) at (read_atom ks d at)
  unfolding read_atom onto run step
  atom-right zero at i f = absurd (omega arith)
  atom-right (suc d) at i f =
      split (eqb (peek ks at) k_true)
      (λ e. let x = eat at k_true i e refl in eat_then x (λ ss r. refl) (done x.inside x.read))
      (λ e₁. split (eqb (peek ks at) k_false)
      (λ e. let x = eat at k_false i e refl in eat_then x (λ ss r. refl) (done x.inside x.read))
      (λ e₂. skip {S' = λ ss. s_sum ∷ s_cmp ∷ s_sum ∷ ss} i (λ ss. rw (e₁, e₂))
      (after (λ a. compare a (cmp_mark less) (addend (factor (number 0)))) (λ r. k_less ∷ k_number ∷ r) (λ t r. refl) (sum-right d at i (omega arith))
      (λ a m h. after (λ o. compare a o (addend (factor (number 0)))) (λ r. k_number ∷ r) (λ t r. h.read _) (cmp-right m h.inside)
      (λ o n h₂. after (λ b. compare a o b) (λ r. r) (λ t r. h₂.read _ ∙ h.read _) (sum-right d n h₂.inside (omega (arith, h.past, h₂.past)))
      (λ b p h₃. done h₃.inside (λ r. h₃.read r ∙ h₂.read _ ∙ h.read _)))))))

  more-conj : (d : ℕ) (l : Tree conj) (b at : ℕ) → at < length ks → ((r : List ℕ) → upto at r ≡ upto b (onto l r)) → Fuel 1 d at → Reads b (λ ss. s_conjs ∷ ss) at (more_conj ks d l at)
  unfolding more_conj onto run step
  more-conj zero l b at i w f = absurd (omega arith)
  more-conj (suc d) l b at i w f =
      split (eqb (peek ks at) k_and)
      (λ e. let x = eat at k_and i e refl in eat_then {S' = λ ss. s_atom ∷ s_conjs ∷ ss} x (λ ss r. refl)
      (after (both l) (λ r. r) (λ t r. x.read _ ∙ w _) (atom-right d (at + 1) x.inside (omega arith))
      (λ t m h. more-conj d (both l t) b m h.inside (λ r. h.read r ∙ x.read _ ∙ w _) (omega (arith, h.past)))))
      (λ e. skip i (λ ss. rw e) (done i w))

  conj-right : (d at : ℕ) → at < length ks → Fuel 6 d at → Reads at (λ ss. s_conj ∷ ss) at (read_conj ks d at)
  unfolding read_conj onto run step
  conj-right zero at i f = absurd (omega arith)
  conj-right (suc d) at i f = skip {S' = λ ss. s_atom ∷ s_conjs ∷ ss} i (λ ss. refl)
      (after one_atom (λ r. r) (λ t r. refl) (atom-right d at i (omega arith))
      (λ t m h. more-conj d (one_atom t) at m h.inside h.read (omega (arith, h.past))))

  more-cond : (d : ℕ) (l : Tree cond) (b at : ℕ) → at < length ks → ((r : List ℕ) → upto at r ≡ upto b (onto l r)) → Fuel 1 d at → Reads b (λ ss. s_conds ∷ ss) at (more_cond ks d l at)
  unfolding more_cond onto run step
  more-cond zero l b at i w f = absurd (omega arith)
  more-cond (suc d) l b at i w f =
      split (eqb (peek ks at) k_or)
      (λ e. let x = eat at k_or i e refl in eat_then {S' = λ ss. s_conj ∷ s_conds ∷ ss} x (λ ss r. refl)
      (after (either l) (λ r. r) (λ t r. x.read _ ∙ w _) (conj-right d (at + 1) x.inside (omega arith))
      (λ t m h. more-cond d (either l t) b m h.inside (λ r. h.read r ∙ x.read _ ∙ w _) (omega (arith, h.past)))))
      (λ e. skip i (λ ss. rw e) (done i w))

  pub cond-right : (d at : ℕ) → at < length ks → Fuel 7 d at → Reads at (λ ss. s_cond ∷ ss) at (read_cond ks d at)
  unfolding read_cond onto run step
  cond-right zero at i f = absurd (omega arith)
  cond-right (suc d) at i f = skip {S' = λ ss. s_conj ∷ s_conds ∷ ss} i (λ ss. refl)
      (after one_conj (λ r. r) (λ t r. refl) (conj-right d at i (omega arith))
      (λ t m h. more-cond d (one_conj t) at m h.inside h.read (omega (arith, h.past))))
