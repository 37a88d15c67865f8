-- The names of a text stand at tokens that rise: no token has two events that name something.
use Prim.Native.Nat.{ℕ, suc, ◌+◌, ◌≤◌, ◌<◌}
use mathlib.Core.Path.{◌≡◌, sym, subst}
use mathlib.Core.List.{List, [], ◌∷◌, ◌++◌}
use native.Mathlib.Omega.{arith}
use Rattle.syntax.specs.Token.{k_minus, k_name, k_close, k_comma, k_plus, k_and, k_or, k_semi, k_int, k_lbrace, k_rbrace, k_else}
use Rattle.syntax.specs.Tree.{Cat, Tree, onto, width, numbered}
use Rattle.syntax.specs.Tree as T
use Rattle.syntax.specs.Abstract.{ast}
use Rattle.events.specs.Event.{Event, function, parameter, thing, opens, closes, declares, uses, calls, ends, events_at, events}
use Rattle.events.proofs.Widths.{onto-length}
use Rattle.events.proofs.Tokens.{mark-width}

-- the token of an event that names a variable or calls a function stands from lo on, below hi
unfoldable pub Between : ℕ → Event → ℕ → Type 0
Between lo (function i) hi = lo ≤ hi
Between lo (parameter i) hi = (lo ≤ i) × (i < hi)
Between lo (thing d i) hi = lo ≤ hi
Between lo opens hi = lo ≤ hi
Between lo closes hi = lo ≤ hi
Between lo (declares i) hi = (lo ≤ i) × (i < hi)
Between lo (uses i) hi = (lo ≤ i) × (i < hi)
Between lo (calls i n) hi = (lo ≤ i) × (i < hi)
Between lo (ends i b) hi = lo ≤ hi

-- the tokens of these events rise strictly, from lo on and below hi
pub data Rising : ℕ → List Event → ℕ → Type 0 where
  none : (lo hi : ℕ) → lo ≤ hi → Rising lo [] hi
  more : (lo mid : ℕ) (e : Event) {hi : ℕ} {es : List Event} → Between lo e mid → Rising mid es hi → Rising lo (e ∷ es) hi

lower : (lo mid hi : ℕ) (e : Event) → lo ≤ mid → Between mid e hi → Between lo e hi
unfolding Between
lower lo mid hi (function i) h b = omega arith
lower lo mid hi (parameter i) h b = omega arith
lower lo mid hi (thing d i) h b = omega arith
lower lo mid hi opens h b = omega arith
lower lo mid hi closes h b = omega arith
lower lo mid hi (declares i) h b = omega arith
lower lo mid hi (uses i) h b = omega arith
lower lo mid hi (calls i n) h b = omega arith
lower lo mid hi (ends i c) h b = omega arith

lowered : (lo : ℕ) {mid hi : ℕ} {es : List Event} → lo ≤ mid → Rising mid es hi → Rising lo es hi
lowered lo h (none mid hi b) = none lo hi (omega arith)
lowered lo h (more mid next e b p) = more lo next e (lower lo mid next e h b) p

then : {lo mid hi : ℕ} {es fs : List Event} → Rising lo es mid → Rising mid fs hi → Rising lo (es ++ fs) hi
then (none lo mid h) q = lowered lo h q
then (more lo mid e b p) q = more lo mid e b (then p q)

still : (n : ℕ) → n ≤ n
still n = omega arith

up : (n k : ℕ) → n ≤ n + k
up n k = omega arith

own : (lo i k : ℕ) → lo ≤ i → (lo ≤ i) × (i < i + suc k)
own lo i k h = omega arith

-- so it is in a tree whose first token is token p: the names are tokens of its own, one after another
pub names-rise : {c : Cat} (d p hi : ℕ) (t : Tree c) → p + width t ≤ hi → Rising p (events_at d (ast (numbered p t))) hi
unfolding onto numbered ast events_at Between
names-rise d p hi (T.number i) h = none p hi (omega arith)
names-rise d p hi (T.negative i) h = none p hi (omega arith)
names-rise d p hi (T.name i) h = more p (p + 1) _ (own p p 0 (still p)) (none (p + 1) hi (omega arith))
names-rise d p hi (T.call i a) h = more p (p + 2) _ (own p p 1 (still p)) (names-rise (suc d) (p + 2) hi a (omega (arith, onto-length a [])))
names-rise d p hi (T.bracket i e) h = more p (p + 1) _ (up p 1) (names-rise (suc d) (p + 1) hi e (omega (arith, onto-length e (k_close ∷ []))))
names-rise d p hi T.no_args h = none p hi (omega arith)
names-rise d p hi (T.some_args l) h = names-rise d p hi l (omega (arith, onto-length l (k_close ∷ [])))
names-rise d p hi (T.first_arg e) h = more p p _ (still p) (names-rise d p hi e (omega (arith, onto-length e [])))
names-rise d p hi (T.next_arg l e) h =
    let q = p + width l + 1 in
    then (names-rise d p q l (omega arith)) (more q q _ (still q) (names-rise d q hi e (omega (arith, onto-length l (k_comma ∷ onto e []), onto-length e []))))
names-rise d p hi (T.factor o) h = names-rise d p hi o (omega (arith, onto-length o []))
names-rise d p hi (T.times m t o) h = then (names-rise d p (p + width t + 1) t (omega arith)) (names-rise d (p + width t + 1) hi o (omega (arith, onto-length t (T.mul_kind m ∷ onto o []), onto-length o [])))
names-rise d p hi (T.addend t) h = names-rise d p hi t (omega (arith, onto-length t []))
names-rise d p hi (T.plus s t) h = then (names-rise d p (p + width s + 1) s (omega arith)) (names-rise d (p + width s + 1) hi t (omega (arith, onto-length s (k_plus ∷ onto t []), onto-length t [])))
names-rise d p hi (T.minus s t) h = then (names-rise d p (p + width s + 1) s (omega arith)) (names-rise d (p + width s + 1) hi t (omega (arith, onto-length s (k_minus ∷ onto t []), onto-length t [])))
names-rise d p hi (T.cmp_mark o) h = none p hi (omega arith)
names-rise d p hi T.always h = none p hi (omega arith)
names-rise d p hi T.never h = none p hi (omega arith)
names-rise d p hi (T.compare a o b) h =
    let q = p + width a + 1 in
    let n = onto-length a (onto o (onto b [])) in
    then (names-rise d p q a (omega arith)) (names-rise d q hi b (omega (arith, n, onto-length o (onto b []), onto-length b [], mark-width o)))
names-rise d p hi (T.one_atom a) h = names-rise d p hi a (omega (arith, onto-length a []))
names-rise d p hi (T.both c a) h = then (names-rise d p (p + width c + 1) c (omega arith)) (names-rise d (p + width c + 1) hi a (omega (arith, onto-length c (k_and ∷ onto a []), onto-length a [])))
names-rise d p hi (T.one_conj c) h = names-rise d p hi c (omega (arith, onto-length c []))
names-rise d p hi (T.either b c) h = then (names-rise d p (p + width b + 1) b (omega arith)) (names-rise d (p + width b + 1) hi c (omega (arith, onto-length b (k_or ∷ onto c []), onto-length c [])))
names-rise d p hi (T.empty i) h = more p p _ (still p) (none p hi (omega arith))
names-rise d p hi (T.declare i) h = more p p _ (still p) (more p (p + 1 + 1) _ (own p (p + 1) 0 (up p 1)) (none (p + 1 + 1) hi (omega arith)))
names-rise d p hi (T.declare_free i) h = more p p _ (still p) (more p (p + 1 + 1) _ (own p (p + 1) 0 (up p 1)) (none (p + 1 + 1) hi (omega arith)))
names-rise d p hi (T.declare_own i a b) h = more p p _ (still p) (more p (p + 1 + 1) _ (own p (p + 1) 0 (up p 1)) (none (p + 1 + 1) hi (omega arith)))
names-rise d p hi (T.assign i e) h = more p p _ (still p) (more p (p + 2) _ (own p p 1 (still p)) (names-rise d (p + 2) hi e (omega (arith, onto-length e (k_semi ∷ [])))))
names-rise d p hi (T.eval e) h = more p p _ (still p) (names-rise d p hi e (omega (arith, onto-length e (k_semi ∷ []))))
names-rise d p hi (T.block i b) h = more p (p + 1) _ (up p 1) (names-rise (suc d) (p + 1) hi b (omega (arith, onto-length b [])))
names-rise d p hi (T.if_else i c s t) h =
    let a = onto-length c (k_close ∷ onto s (k_else ∷ onto t [])) in
    let b = onto-length s (k_else ∷ onto t []) in
    let e = onto-length t [] in
    let q = p + 2 + width c + 1 in
    let r = q + width s + 1 in
    then
    (then
    (then (more p (p + 2) _ (up p 2) (names-rise d (p + 2) q c (omega arith))) (more q q opens (still q) (names-rise (suc d) q r s (omega arith))))
    (more r r closes (still r) (more r r opens (still r) (names-rise (suc d) r hi t (omega arith)))))
    (more hi hi closes (still hi) (none hi hi (still hi)))
names-rise d p hi (T.while i c s) h =
    let a = onto-length c (k_close ∷ onto s []) in
    let b = onto-length s [] in
    let q = p + 2 + width c + 1 in
    then
    (then (more p (p + 2) _ (up p 2) (names-rise d (p + 2) q c (omega arith))) (more q q opens (still q) (names-rise (suc d) q hi s (omega arith))))
    (more hi hi closes (still hi) (none hi hi (still hi)))
names-rise d p hi (T.return i e) h = more p (p + 1) _ (up p 1) (names-rise d (p + 1) hi e (omega (arith, onto-length e (k_semi ∷ []))))
names-rise d p hi (T.fail i) h = more p p _ (still p) (none p hi (omega arith))
names-rise d p hi T.no_stmts h = none p hi (omega arith)
names-rise d p hi (T.more_stmts l s) h = then (names-rise d p (p + width l) l (still _)) (names-rise d (p + width l) hi s (omega (arith, onto-length l (onto s []), onto-length s [])))
names-rise d p hi (T.braced l i) h = then (more p p opens (still p) (names-rise d p hi l (omega (arith, onto-length l (k_rbrace ∷ []))))) (more hi hi closes (still hi) (none hi hi (still hi)))
names-rise d p hi T.no_params h = none p hi (omega arith)
names-rise d p hi (T.some_params l) h = names-rise d p hi l (omega (arith, onto-length l (k_close ∷ [])))
names-rise d p hi (T.first_param i) h = more p (p + 1 + 1) _ (own p (p + 1) 0 (up p 1)) (none (p + 1 + 1) hi (omega arith))
names-rise d p hi (T.next_param l i) h =
    let q = p + width l in
    then (names-rise d p q l (still q)) (more q (q + 2 + 1) _ (own q (q + 2) 0 (up q 2)) (none (q + 2 + 1) hi (omega (arith, onto-length l (k_comma ∷ k_int ∷ k_name ∷ [])))))
names-rise d p hi (T.function i q b) h =
    let a = onto-length q (k_lbrace ∷ onto b []) in
    let e = onto-length b [] in
    let r = p + 3 + width q + 1 in
    then
    (then (more p (p + 3) _ (up p 3) (names-rise d (p + 3) r q (omega arith))) (names-rise d r hi b (omega arith)))
    (more hi hi _ (still hi) (none hi hi (still hi)))
names-rise d p hi T.no_funs h = none p hi (omega arith)
names-rise d p hi (T.more_funs l f) h = then (names-rise d p (p + width l) l (still _)) (names-rise d (p + width l) hi f (omega (arith, onto-length l (onto f []), onto-length f [])))

-- so it is in a text, whose tree has the numbers of its tokens
pub text-rises : (t : Tree T.prog) → t ≡ numbered 0 t → Rising 0 (events (ast t)) (width t)
unfolding events
text-rises t e = subst (λ (u : Tree T.prog). Rising 0 (events (ast u)) (width t)) (sym e) (names-rise 1 0 (width t) t (omega arith))
