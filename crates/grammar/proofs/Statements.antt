-- The parser is right, for statements, functions and programs.
use Prim.Native.Nat.{ℕ, zero, suc, ◌+◌, ◌≤◌, ◌<◌}
use mathlib.Core.Path.{◌≡◌, refl, sym, ap, ◌∙◌, subst}
use mathlib.Core.Bool.{Bool, true, false}
use mathlib.Core.List.{List, [], ◌∷◌}
use native.Mathlib.Nat.{le_refl}
use native.Mathlib.Omega.{arith}
use lib.ListN.{length, get_or, take, drop, length-append}
use lib.Seq.{length-take-le}
use lib.Dec.{eqb}
use borrow.Author.Tests.{eq-eqb}
use Rattle.syntax.specs.Token.{k_name, k_open, k_close, k_comma, k_true, k_semi, k_assign, k_lbrace, k_rbrace, k_int, k_free, k_if, k_else, k_while, k_return, k_fail, k_number, k_minus, k_dot_dot}
use Rattle.syntax.specs.Tree.{Cat, Tree, end_onto, onto}
use Rattle.syntax.specs.Tree.{sum, cond, stmt, stmts, param_list, prog}
use Rattle.syntax.specs.Tree.{always, one_atom, one_conj, empty, declare, declare_own, assign, eval, block, if_else, while, return, fail, no_stmts, more_stmts, braced, no_params, some_params, first_param, next_param, function, more_funs}
use Rattle.grammar.proofs.Lengths.{stmt-longer}
use Rattle.grammar.proofs.Machine.{Stack, step, run}
use Rattle.grammar.proofs.Machine.{tok, s_sum, s_cond, s_stmt, s_decl, s_free, s_end, s_named, s_body, s_params, s_param_more, s_funs}
use Rattle.grammar.specs.Parse.{Res, ok, bad, and_then, peek, expect, read_cond, read_guard, read_ended, read_named, read_end, read_own, read_decl, read_fail, read_stmt, read_block, read_if, read_while, more_body, more_params, read_params, read_fun, more_prog}
use Rattle.grammar.proofs.Right.{upto, Ok, Reads, Eat, head, eat, move, eat_then, done, skip, stop, split, after, Fuel, sum-right, cond-right}

module _ (ks : List ℕ) (ends : (a : ℕ) → suc a ≡ length ks → get_or ks a 0 ≡ 0) where
  -- a statement has at least one token
  strict : {at m : ℕ} {S : Stack → Stack} {t : Tree stmt} → Ok ks ends at S at t m → at < m
  strict {at} {m} {t = t} h =
      let e : m + 0 ≡ at + length (onto t []) = lengths m (omega (arith, h.inside)) [] ∙ ap length (h.read []) ∙ sym (lengths at (omega (arith, h.inside, h.past)) (onto t [])) in
      omega (arith, e, stmt-longer t)
    where
      lengths : (a : ℕ) → a ≤ length ks → (r : List ℕ) → a + length r ≡ length (upto ks ends a r)
      lengths a i r = sym (length-append (take a ks) r ∙ ap (λ (k : ℕ). k + length r) (length-take-le a ks i))

  -- a token that must come
  expects : {c : Cat} {b at : ℕ} {S' : Stack → Stack} {r : Res c} (k : ℕ) (t : Tree c) (w : List ℕ → List ℕ) → at < length ks → eqb k 0 ≡ false → ((q : List ℕ) → upto ks ends at (w q) ≡ upto ks ends b (onto t q))
      → (Eat ks ends at k → Reads ks ends b S' (at + 1) r) → Reads ks ends b (λ ss. tok k ∷ S' ss) at (expect ks k at r)
  unfolding run step
  expects {at = at} k t w i z e f =
      split ks ends (eqb (peek ks at) k)
      (λ q. let x = eat ks ends at k i q z in eat_then ks ends x (λ ss r. rw (eq-eqb k k refl)) (f x))
      (λ q. stop ks ends i t w e (λ ss. rw q))

  abbrev some_cond : Tree cond
  some_cond = one_conj (one_atom always)

  guard-is : {e : Cat} (d x : ℕ) (f : Tree cond → ℕ → Res e) → and_then (read_guard ks (suc d) x) f ≡ expect ks k_open x (and_then (read_cond ks d (x + 1)) (λ c m. expect ks k_close m (f c (m + 1))))
  unfolding read_guard
  guard-is {e} d x f = go (eqb (peek ks x) k_open) (read_cond ks d (x + 1))
    where
      close : (c : Tree cond) (m : ℕ) (b : Bool) → ◌≡◌ {A = Res e} (and_then (elim b [ true ↦ ok c (m + 1) | false ↦ bad m ]) f) (elim b [ true ↦ f c (m + 1) | false ↦ bad m ])
      close c m true = refl
      close c m false = refl

      go : (b : Bool) (r : Res cond) → ◌≡◌ {A = Res e} (and_then (elim b [ true ↦ and_then r (λ c m. expect ks k_close m (ok c (m + 1))) | false ↦ bad x ]) f) (elim b [ true ↦ and_then r (λ c m. expect ks k_close m (f c (m + 1))) | false ↦ bad x ])
      go true (ok c m) = close c m (eqb (peek ks m) k_close)
      go true (bad m) = refl
      go false r = refl

  -- a condition in brackets at x, and what comes after ks ends it; `form` makes a tree of it, and `tail` what is then missing
  guard-then : {e : Cat} {b : ℕ} {S₂ : Stack → Stack} (f : Tree cond → ℕ → Res e) (d x : ℕ) → x < length ks → Fuel ks ends 1 (suc d) x → (form : Tree cond → Tree e) (tail : List ℕ → List ℕ)
      → ((c : Tree cond) (r : List ℕ) → upto ks ends x (k_open ∷ onto c (k_close ∷ tail r)) ≡ upto ks ends b (onto (form c) r))
      → ((c : Tree cond) (m : ℕ) → x < m → m < length ks → ((r : List ℕ) → upto ks ends m r ≡ upto ks ends x (k_open ∷ onto c (k_close ∷ r))) → Reads ks ends b S₂ m (f c m))
      → Reads ks ends b (λ ss. tok k_open ∷ s_cond ∷ tok k_close ∷ S₂ ss) x (and_then (read_guard ks (suc d) x) f)
  unfolding onto
  guard-then {e} {b} {S₂} f d x i g form tail w h =
      subst (λ (v : Res e). Reads ks ends b (λ ss. tok k_open ∷ s_cond ∷ tok k_close ∷ S₂ ss) x v) (sym (guard-is d x f))
      (expects k_open (form some_cond) (λ r. k_open ∷ k_true ∷ k_close ∷ tail r) i refl (λ r. w some_cond r)
      (λ y. after ks ends form (λ r. k_close ∷ tail r) (λ t r. y.read _ ∙ w t r) (cond-right ks ends d (x + 1) y.inside (omega arith))
      (λ c m k. expects k_close (form c) (λ r. k_close ∷ tail r) k.inside refl (λ r. k.read _ ∙ y.read _ ∙ w c r)
      (λ z. h c (m + 1) (omega (arith, k.past)) z.inside (λ r. z.read _ ∙ k.read _ ∙ y.read _)))))

  ended-right : (w : Tree sum → Tree stmt) (d b at : ℕ) → at < length ks → Fuel ks ends 5 d at → ((t : Tree sum) (r : List ℕ) → upto ks ends at (onto t (k_semi ∷ r)) ≡ upto ks ends b (onto (w t) r))
      → Reads ks ends b (λ ss. s_sum ∷ tok k_semi ∷ ss) at (read_ended ks w d at)
  unfolding read_ended
  ended-right wrap zero b at i f w = absurd (omega arith)
  ended-right wrap (suc d) b at i f w =
      after ks ends wrap (λ r. k_semi ∷ r) w (sum-right ks ends d at i (omega arith))
      (λ t m h. expects k_semi (wrap t) (λ r. k_semi ∷ r) h.inside refl (λ r. h.read _ ∙ w t r) (λ y. done ks ends y.inside (λ r. y.read r ∙ h.read _ ∙ w t r)))

  -- an end of a pair, and what comes after it; `form` makes a tree of whether it has a minus, and `tail` what is then missing
  end-then : {c : Cat} {b at : ℕ} {S' : Stack → Stack} (f : Bool → ℕ → Res c) (form : Bool → Tree c) (tail : List ℕ → List ℕ) → at < length ks
      → ((a : Bool) (r : List ℕ) → upto ks ends at (end_onto a (tail r)) ≡ upto ks ends b (onto (form a) r))
      → ((a : Bool) (m : ℕ) → m < length ks → ((r : List ℕ) → upto ks ends m r ≡ upto ks ends at (end_onto a r)) → Reads ks ends b S' m (f a m))
      → Reads ks ends b (λ ss. s_end ∷ S' ss) at (read_end ks at f)
  unfolding run step
  end-then {at = at} {S' = S'} f form tail i w h =
      split ks ends (eqb (peek ks at) k_minus)
      (λ e. let x = eat ks ends at k_minus i e refl in eat_then ks ends {S' = λ ss. tok k_number ∷ S' ss} x (λ ss r. refl)
      (expects k_number (form true) (λ r. k_number ∷ tail r) x.inside refl (λ r. x.read _ ∙ w true r)
      (λ y. h true (at + 1 + 1) y.inside (λ r. y.read _ ∙ x.read _))))
      (λ e. skip ks ends {S' = λ ss. tok k_number ∷ S' ss} i (λ ss. rw e)
      (expects k_number (form false) (λ r. k_number ∷ tail r) i refl (λ r. w false r)
      (λ y. h false (at + 1) y.inside (λ r. y.read _))))

  own-right : (at m : ℕ) → m < length ks → ((r : List ℕ) → upto ks ends m r ≡ upto ks ends at (k_int ∷ k_name ∷ k_free ∷ r))
      → Reads ks ends at (λ ss. s_end ∷ tok k_dot_dot ∷ s_end ∷ tok k_semi ∷ ss) m (read_own ks at m)
  unfolding read_own onto
  own-right at m i u =
      end-then (λ a n. expect ks k_dot_dot n (read_end ks (n + 1) (λ b o. expect ks k_semi o (ok (declare_own at a b) (o + 1))))) (λ a. declare_own 0 a false) (λ r. k_dot_dot ∷ k_number ∷ k_semi ∷ r) i (λ a r. u _)
      (λ a n j v. expects k_dot_dot (declare_own 0 a false) (λ r. k_dot_dot ∷ k_number ∷ k_semi ∷ r) j refl (λ r. v _ ∙ u _)
      (λ x. end-then (λ b o. expect ks k_semi o (ok (declare_own at a b) (o + 1))) (declare_own 0 a) (λ r. k_semi ∷ r) x.inside (λ b r. x.read _ ∙ v _ ∙ u _)
      (λ b o k w. expects k_semi (declare_own 0 a b) (λ r. k_semi ∷ r) k refl (λ r. w _ ∙ x.read _ ∙ v _ ∙ u _)
      (λ y. done ks ends y.inside (λ r. y.read _ ∙ w _ ∙ x.read _ ∙ v _ ∙ u _)))))

  decl-right : (at : ℕ) → Eat ks ends at k_int → Reads ks ends at (λ ss. tok k_name ∷ s_decl ∷ ss) (at + 1) (read_decl ks at)
  unfolding read_decl onto run step
  decl-right at x =
      expects k_name (declare 0) (λ r. k_name ∷ k_semi ∷ r) x.inside refl (λ r. x.read _)
      (λ y. split ks ends (eqb (peek ks (at + 1 + 1)) k_semi)
      (λ e. let z = eat ks ends (at + 1 + 1) k_semi y.inside e refl in eat_then ks ends z (λ ss r. refl) (done ks ends z.inside (λ r. z.read _ ∙ y.read _ ∙ x.read _)))
      (λ e. skip ks ends {S' = λ ss. tok k_free ∷ s_free ∷ ss} y.inside (λ ss. rw e)
      (expects k_free (declare 0) (λ r. k_semi ∷ r) y.inside refl (λ r. y.read _ ∙ x.read _)
      (λ z. split ks ends (eqb (peek ks (at + 1 + 1 + 1)) k_semi)
      (λ f. let u = eat ks ends (at + 1 + 1 + 1) k_semi z.inside f refl in eat_then ks ends u (λ ss r. refl) (done ks ends u.inside (λ r. u.read _ ∙ z.read _ ∙ y.read _ ∙ x.read _)))
      (λ f. skip ks ends {S' = λ ss. s_end ∷ tok k_dot_dot ∷ s_end ∷ tok k_semi ∷ ss} z.inside (λ ss. rw f) (own-right at (at + 1 + 1 + 1) z.inside (λ r. z.read _ ∙ y.read _ ∙ x.read _))))))
      )

  -- a statement that begins with a name which is not assigned to goes on as a sum
  named-run : (k : ℕ) (ss : Stack) (r : List ℕ) → eqb k k_assign ≡ false → run (s_stmt ∷ ss) (k_name ∷ k ∷ r) ≡ run (s_sum ∷ tok k_semi ∷ ss) (k_name ∷ k ∷ r)
  unfolding run step
  named-run k ss r e = rw e

  two-ahead : (at : ℕ) → (x : Eat ks ends at k_name) → drop at ks ≡ k_name ∷ peek ks (at + 1) ∷ drop (at + 1 + 1) ks
  two-ahead at x = x.ahead ∙ ap (λ l. k_name ∷ l) (head ks ends (at + 1) x.inside)

  named-right : (d at : ℕ) → at < length ks → Eat ks ends at k_name → Fuel ks ends 6 d at → Reads ks ends at (λ ss. s_stmt ∷ ss) at (read_named ks d at)
  unfolding read_named onto run step
  named-right zero at i x f = absurd (omega arith)
  named-right (suc d) at i x f =
      split ks ends (eqb (peek ks (at + 1)) k_assign)
      (λ e. let y = eat ks ends (at + 1) k_assign x.inside e refl in eat_then ks ends {S' = λ ss. s_named ∷ ss} x (λ ss r. refl)
      (eat_then ks ends {S' = λ ss. s_sum ∷ tok k_semi ∷ ss} y (λ ss r. refl) (ended-right (assign at) d at (at + 1 + 1) y.inside (omega arith) (λ t r. y.read _ ∙ x.read _))))
      (λ e. let z = two-ahead at x in move ks ends (le_refl _) (λ ss. ap (run (s_stmt ∷ ss)) z ∙ named-run (peek ks (at + 1)) ss (drop (at + 1 + 1) ks) e ∙ sym (ap (run (s_sum ∷ tok k_semi ∷ ss)) z))
      (ended-right eval d at at i (omega arith) (λ t r. refl)))

  fail-right : (at : ℕ) → Eat ks ends at k_fail → Reads ks ends at (λ ss. tok k_semi ∷ ss) (at + 1) (read_fail ks at)
  unfolding read_fail onto
  fail-right at x = expects k_semi (fail at) (λ r. k_semi ∷ r) x.inside refl (λ r. x.read _) (λ y. done ks ends y.inside (λ r. y.read r ∙ x.read _))

  mutual
    unfolding read_stmt onto run step

    pub stmt-right : (d at : ℕ) → at < length ks → Fuel ks ends 7 d at → Reads ks ends at (λ ss. s_stmt ∷ ss) at (read_stmt ks d at)
    stmt-right zero at i f = absurd (omega arith)
    stmt-right (suc d) at i f =
        split ks ends (eqb (peek ks at) k_semi)
        (λ e. let x = eat ks ends at k_semi i e refl in eat_then ks ends x (λ ss r. refl) (done ks ends x.inside x.read))
        (λ e₁. split ks ends (eqb (peek ks at) k_int)
        (λ e. let x = eat ks ends at k_int i e refl in eat_then ks ends {S' = λ ss. tok k_name ∷ s_decl ∷ ss} x (λ ss r. refl) (decl-right at x))
        (λ e₂. split ks ends (eqb (peek ks at) k_name)
        (λ e. named-right d at i (eat ks ends at k_name i e refl) (omega arith))
        (λ e₃. split ks ends (eqb (peek ks at) k_lbrace)
        (λ e. let x = eat ks ends at k_lbrace i e refl in eat_then ks ends {S' = λ ss. s_body ∷ ss} x (λ ss r. refl) (block-right d at x (omega arith)))
        (λ e₄. split ks ends (eqb (peek ks at) k_if)
        (λ e. let x = eat ks ends at k_if i e refl in eat_then ks ends {S' = λ ss. tok k_open ∷ s_cond ∷ tok k_close ∷ s_stmt ∷ tok k_else ∷ s_stmt ∷ ss} x (λ ss r. refl) (if-right d at x (omega arith)))
        (λ e₅. split ks ends (eqb (peek ks at) k_while)
        (λ e. let x = eat ks ends at k_while i e refl in eat_then ks ends {S' = λ ss. tok k_open ∷ s_cond ∷ tok k_close ∷ s_stmt ∷ ss} x (λ ss r. refl) (while-right d at x (omega arith)))
        (λ e₆. split ks ends (eqb (peek ks at) k_return)
        (λ e. let x = eat ks ends at k_return i e refl in eat_then ks ends {S' = λ ss. s_sum ∷ tok k_semi ∷ ss} x (λ ss r. refl) (ended-right (return at) d at (at + 1) x.inside (omega arith) (λ t r. x.read _)))
        (λ e₇. split ks ends (eqb (peek ks at) k_fail)
        (λ e. let x = eat ks ends at k_fail i e refl in eat_then ks ends {S' = λ ss. tok k_semi ∷ ss} x (λ ss r. refl) (fail-right at x))
        (λ e₈. skip ks ends {S' = λ ss. s_sum ∷ tok k_semi ∷ ss} i (λ ss. rw (e₁, e₂, e₃, e₄, e₅, e₆, e₇, e₈)) (ended-right eval d at at i (omega arith) (λ t r. refl))))))))))

    block-right : (d at : ℕ) → Eat ks ends at k_lbrace → Fuel ks ends 1 d at → Reads ks ends at (λ ss. s_body ∷ ss) (at + 1) (read_block ks d at)
    block-right zero at x f = absurd (omega (arith, x.inside))
    block-right (suc d) at x f =
        after ks ends (block at) (λ r. r) (λ t r. x.read _) (body-right d no_stmts (at + 1) (at + 1) x.inside (λ r. refl) (omega arith))
        (λ t m h. done ks ends h.inside (λ r. h.read r ∙ x.read _))

    if-right : (d at : ℕ) → Eat ks ends at k_if → Fuel ks ends 1 d at → Reads ks ends at (λ ss. tok k_open ∷ s_cond ∷ tok k_close ∷ s_stmt ∷ tok k_else ∷ s_stmt ∷ ss) (at + 1) (read_if ks d at)
    if-right zero at x f = absurd (omega (arith, x.inside))
    if-right (suc zero) at x f = absurd (omega (arith, x.inside))
    if-right (suc (suc d)) at x f =
        guard-then {S₂ = λ ss. s_stmt ∷ tok k_else ∷ s_stmt ∷ ss} _ d (at + 1) x.inside (omega arith) (λ c. if_else at c (empty 0) (empty 0)) (λ r. k_semi ∷ k_else ∷ k_semi ∷ r) (λ c r. x.read _)
        (λ c m l h y. after ks ends (λ s. if_else at c s (empty 0)) (λ r. k_else ∷ k_semi ∷ r) (λ t r. y _ ∙ x.read _) (stmt-right (suc d) m h (omega arith))
        (λ s n g. expects k_else (if_else at c s (empty 0)) (λ r. k_else ∷ k_semi ∷ r) g.inside refl (λ r. g.read _ ∙ y _ ∙ x.read _)
        (λ u. after ks ends (λ t. if_else at c s t) (λ r. r) (λ t r. u.read _ ∙ g.read _ ∙ y _ ∙ x.read _) (stmt-right (suc d) (n + 1) u.inside (omega (arith, g.past)))
        (λ t p o. done ks ends o.inside (λ r. o.read r ∙ u.read _ ∙ g.read _ ∙ y _ ∙ x.read _)))))

    while-right : (d at : ℕ) → Eat ks ends at k_while → Fuel ks ends 1 d at → Reads ks ends at (λ ss. tok k_open ∷ s_cond ∷ tok k_close ∷ s_stmt ∷ ss) (at + 1) (read_while ks d at)
    while-right zero at x f = absurd (omega (arith, x.inside))
    while-right (suc zero) at x f = absurd (omega (arith, x.inside))
    while-right (suc (suc d)) at x f =
        guard-then {S₂ = λ ss. s_stmt ∷ ss} _ d (at + 1) x.inside (omega arith) (λ c. while at c (empty 0)) (λ r. k_semi ∷ r) (λ c r. x.read _)
        (λ c m l h y. after ks ends (λ s. while at c s) (λ r. r) (λ t r. y _ ∙ x.read _) (stmt-right (suc d) m h (omega arith))
        (λ s n g. done ks ends g.inside (λ r. g.read r ∙ y _ ∙ x.read _)))

    pub body-right : (d : ℕ) (l : Tree stmts) (b at : ℕ) → at < length ks → ((r : List ℕ) → upto ks ends at r ≡ upto ks ends b (onto l r)) → Fuel ks ends 8 d at → Reads ks ends b (λ ss. s_body ∷ ss) at (more_body ks d l at)
    body-right zero l b at i w f = absurd (omega arith)
    body-right (suc d) l b at i w f =
        split ks ends (eqb (peek ks at) k_rbrace)
        (λ e. let x = eat ks ends at k_rbrace i e refl in eat_then ks ends x (λ ss r. refl) (done ks ends x.inside (λ r. x.read r ∙ w _)))
        (λ e. skip ks ends {S' = λ ss. s_stmt ∷ s_body ∷ ss} i (λ ss. rw e)
        (after ks ends (λ s. braced (more_stmts l s) 0) (λ r. k_rbrace ∷ r) (λ t r. w _) (stmt-right d at i (omega arith))
        (λ s m h. body-right d (more_stmts l s) b m h.inside (λ r. h.read r ∙ w _) (omega (arith, strict h)))))

  more-params : (d : ℕ) (l : Tree param_list) (b at : ℕ) → at < length ks → ((r : List ℕ) → upto ks ends at r ≡ upto ks ends b (onto l r)) → Fuel ks ends 1 d at → Reads ks ends b (λ ss. s_param_more ∷ ss) at (more_params ks d l at)
  unfolding more_params onto run step
  more-params zero l b at i w f = absurd (omega arith)
  more-params (suc d) l b at i w f =
      split ks ends (eqb (peek ks at) k_comma)
      (λ e. let x = eat ks ends at k_comma i e refl in eat_then ks ends {S' = λ ss. tok k_int ∷ tok k_name ∷ s_param_more ∷ ss} x (λ ss r. refl)
      (expects k_int (some_params (next_param l 0)) (λ r. k_int ∷ k_name ∷ k_close ∷ r) x.inside refl (λ r. x.read _ ∙ w _)
      (λ y. expects k_name (some_params (next_param l 0)) (λ r. k_name ∷ k_close ∷ r) y.inside refl (λ r. y.read _ ∙ x.read _ ∙ w _)
      (λ z. more-params d (next_param l (at + 1 + 1)) b (at + 1 + 1 + 1) z.inside (λ r. z.read _ ∙ y.read _ ∙ x.read _ ∙ w _) (omega arith)))))
      (λ e₁. split ks ends (eqb (peek ks at) k_close)
      (λ e. let x = eat ks ends at k_close i e refl in eat_then ks ends x (λ ss r. refl) (done ks ends x.inside (λ r. x.read r ∙ w _)))
      (λ e₂. stop ks ends i (some_params l) (λ r. k_close ∷ r) (λ r. w _) (λ ss. rw (e₁, e₂))))

  params-right : (d at : ℕ) → at < length ks → Fuel ks ends 1 d at → Reads ks ends at (λ ss. s_params ∷ ss) at (read_params ks d at)
  unfolding read_params onto run step
  params-right zero at i f = absurd (omega arith)
  params-right (suc d) at i f =
      split ks ends (eqb (peek ks at) k_close)
      (λ e. let x = eat ks ends at k_close i e refl in eat_then ks ends x (λ ss r. refl) (done ks ends x.inside x.read))
      (λ e. skip ks ends {S' = λ ss. tok k_int ∷ tok k_name ∷ s_param_more ∷ ss} i (λ ss. rw e)
      (expects k_int no_params (λ r. k_close ∷ r) i refl (λ r. refl)
      (λ y. expects k_name (some_params (first_param 0)) (λ r. k_name ∷ k_close ∷ r) y.inside refl (λ r. y.read _)
      (λ z. more-params d (first_param (at + 1)) at (at + 1 + 1) z.inside (λ r. z.read _ ∙ y.read _) (omega arith)))))

  fun-right : (d at : ℕ) → Eat ks ends at k_int → Fuel ks ends 1 d at → Reads ks ends at (λ ss. tok k_name ∷ tok k_open ∷ s_params ∷ tok k_lbrace ∷ s_body ∷ ss) (at + 1) (read_fun ks d at)
  unfolding read_fun onto run step
  fun-right zero at x f = absurd (omega (arith, x.inside))
  fun-right (suc d) at x f =
      expects k_name (function 0 no_params (braced no_stmts 0)) (λ r. k_name ∷ k_open ∷ k_close ∷ k_lbrace ∷ k_rbrace ∷ r) x.inside refl (λ r. x.read _)
      (λ y. expects k_open (function 0 no_params (braced no_stmts 0)) (λ r. k_open ∷ k_close ∷ k_lbrace ∷ k_rbrace ∷ r) y.inside refl (λ r. y.read _ ∙ x.read _)
      (λ z. after ks ends (λ p. function 0 p (braced no_stmts 0)) (λ r. k_lbrace ∷ k_rbrace ∷ r) (λ t r. z.read _ ∙ y.read _ ∙ x.read _) (params-right d (at + 1 + 1 + 1) z.inside (omega arith))
      (λ p m h. expects k_lbrace (function 0 p (braced no_stmts 0)) (λ r. k_lbrace ∷ k_rbrace ∷ r) h.inside refl (λ r. h.read _ ∙ z.read _ ∙ y.read _ ∙ x.read _)
      (λ u. after ks ends (λ b. function 0 p b) (λ r. r) (λ t r. u.read _ ∙ h.read _ ∙ z.read _ ∙ y.read _ ∙ x.read _) (body-right d no_stmts (m + 1) (m + 1) u.inside (λ r. refl) (omega (arith, h.past)))
      (λ b n g. done ks ends g.inside (λ r. g.read r ∙ u.read _ ∙ h.read _ ∙ z.read _ ∙ y.read _ ∙ x.read _))))))

  pub prog-right : (d : ℕ) (l : Tree prog) (b at : ℕ) → at < length ks → ((r : List ℕ) → upto ks ends at r ≡ upto ks ends b (onto l r)) → Fuel ks ends 2 d at → Reads ks ends b (λ ss. s_funs ∷ ss) at (more_prog ks d l at)
  unfolding more_prog onto run step
  prog-right zero l b at i w f = absurd (omega arith)
  prog-right (suc d) l b at i w f =
      split ks ends (eqb (peek ks at) k_int)
      (λ e. let x = eat ks ends at k_int i e refl in eat_then ks ends {S' = λ ss. tok k_name ∷ tok k_open ∷ s_params ∷ tok k_lbrace ∷ s_body ∷ s_funs ∷ ss} x (λ ss r. refl)
      (after ks ends {S₁ = λ ss. tok k_name ∷ tok k_open ∷ s_params ∷ tok k_lbrace ∷ s_body ∷ ss} (λ t. more_funs l t) (λ r. r) (λ t r. w _) (fun-right d at x (omega arith))
      (λ t m h. prog-right d (more_funs l t) b m h.inside (λ r. h.read r ∙ w _) (omega (arith, h.past)))))
      (λ e. skip ks ends i (λ ss. rw e) (done ks ends i w))
