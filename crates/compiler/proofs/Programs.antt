-- What the kind of a node says of the tree that stands there, and of its code: functions.
use Rattle.std.proofs.Common.{◌≡◌, ℕ, zero, suc, ◌+◌, ◌<◌, ◌≤◌, List, [], ◌∷◌, ◌++◌, length, set, replicate, sym, refl, ap, ◌∙◌, subst, append_assoc, zero-add, arith}
use lib.Seq.{sets}
use Rattle.syntax.specs.declared.node.Node.{Node}
use Rattle.syntax.specs.declared.node.NodeKind.TheVariants as kind
use Rattle.syntax.specs.NodeKinds.{node_number}
use Rattle.syntax.proofs.SameKinds.{same-node}
use Rattle.syntax.specs.Fetch.{Fetched}
use Rattle.syntax.specs.Ast.{Ast, prog, fun, body, more_funs}
use Rattle.syntax.specs.Table.{At, Holds, n_more_funs, at-function, at-no-funs, at-more-funs}
use Rattle.semantics.specs.Does.{frame}
use Rattle.events.proofs.Nodes.{at-kind, moved}
use Rattle.text_rules.specs.Resolve.{part}
use Rattle.simulation.specs.Code.{Entry, fail, act, code_b, starts_of}
use Rattle.compiler.specs.Coded.{coded}
use Rattle.compiler.specs.Sound.{Sound}
use Rattle.compiler.proofs.Parts.{funs, funs-code, funs-starts, funs-length}
use Rattle.compiler.proofs.Nodes.{One}
use Rattle.compiler.proofs.Laws.{sets-append, sets-cons}

module _ (value means : ℕ → ℕ) (m : ℕ) where
  pub record Funs (l : List ℕ) (i a b : ℕ) (t : Ast prog) : Type 0 where
    pub x : Ast prog
    pub y : Ast fun
    pub falls : a < i
    pub falls₂ : b < i
    pub holds : Holds l a x
    pub holds₂ : Holds l b y
    pub code : coded value means t ≡ coded value means x ++ coded value means y
    pub starts : (n : ℕ) → starts_of n (part value means t []) ≡ starts_of n (part value means x []) ++ (n + length (coded value means x)) ∷ []
    pub many : length (part value means t []) ≡ suc (length (part value means x []))
    pub sound : Sound m value means t → Sound m value means x
    pub sound₂ : Sound m value means t → Sound m value means y

  funs-at : {l : List ℕ} {i : ℕ} {n : Node} {t : Ast prog} → Fetched l i n → At l prog i n_more_funs t → Funs l i n.first n.second t
  unfolding part Sound funs
  funs-at f (at-more-funs {x = x} {y = y} r p q c e) = record {
    x = x;
    y = y;
    falls = omega (arith, f.first, r.first);
    falls₂ = omega (arith, f.second, r.second);
    holds = moved (f.first ∙ r.first) c;
    holds₂ = moved (f.second ∙ r.second) e;
    code = funs-code value means x (part value means y);
    starts = λ n. funs-starts value means n x (part value means y);
    many = funs-length value means (more_funs x y) ∙ ap suc (sym (funs-length value means x));
    sound = λ b. b.0;
    sound₂ = λ b. b.1;
  }

  pub funs-node : {l : List ℕ} {i : ℕ} {n : Node} {t : Ast prog} → Fetched l i n → n.kind ≡ kind.MoreFuns → Holds l i t → Funs l i n.first n.second t
  funs-node f e h = funs-at f (at-kind n_more_funs f (ap node_number e) h)

  -- no function
  none-at : {l : List ℕ} {i k : ℕ} {t : Ast prog} → (k ≡ n_more_funs → ⊥) → At l prog i k t → part value means t [] ≡ []
  unfolding part
  none-at never (at-no-funs r) = refl
  none-at never (at-more-funs r p q x y) = absurd (never refl)

  pub none-node : {l : List ℕ} {i : ℕ} {n : Node} {t : Ast prog} → Fetched l i n → (n.kind ≡ kind.MoreFuns → ⊥) → Holds l i t → part value means t [] ≡ []
  none-node {n = n} f never h = none-at (λ e. never (same-node e)) (at-kind (node_number n.kind) f refl h)

  -- a function's body
  function-at : {l : List ℕ} {i k : ℕ} {n : Node} {t : Ast fun} → Fetched l i n → At l fun i k t → One value means m l i n.second t body (λ x. coded value means x ++ act fail ∷ []) (λ x. Unit)
  unfolding part code_b Sound
  function-at f (at-function {y = y} r p q c e) = record { x = y; falls = omega (arith, f.second, r.second); holds = moved (f.second ∙ r.second) e; code = refl; sound = λ b. b; own = λ b. tt }

  pub function-node : {l : List ℕ} {i : ℕ} {n : Node} {t : Ast fun} → Fetched l i n → Holds l i t → One value means m l i n.second t body (λ x. coded value means x ++ act fail ∷ []) (λ x. Unit)
  function-node f h = function-at f h.at

-- ---- a function more

-- xs: the code of the functions before it; ys: that of its body, after which the run fails
pub bodied : {b d k r es fs : List Entry} (a xs ys : List Entry) → es ≡ xs ++ fs → fs ≡ ys ++ act fail ∷ [] → b ≡ a ++ xs → d ≡ b → k ≡ d ++ ys → r ≡ k ++ act fail ∷ [] → r ≡ a ++ es
bodied a xs ys e f g h i j =
    j ∙ ap (λ (z : List Entry). z ++ act fail ∷ []) (i ∙ ap (λ (z : List Entry). z ++ ys) (h ∙ g))
    ∙ append_assoc (a ++ xs) ys (act fail ∷ []) ∙ append_assoc a xs (ys ++ act fail ∷ [])
    ∙ ap (λ (z : List Entry). a ++ z) (sym (e ∙ ap (λ (z : List Entry). xs ++ z) f))

-- ---- where functions begin

-- one more
pub started : (starts vs : List ℕ) (g a : ℕ) → g ≡ length vs → set (sets starts 0 vs) g a ≡ sets starts 0 (vs ++ a ∷ [])
started starts vs g a e =
    ap (λ (k : ℕ). set (sets starts 0 vs) k a) (e ∙ sym (zero-add (length vs)))
    ∙ sym (sets-append starts 0 vs (a ∷ []))

-- written over words that are all d, they are filled up with it
pub filled : (d n : ℕ) (vs : List ℕ) → length vs ≤ n → sets (replicate n d) 0 vs ≡ frame d n vs
unfolding frame
filled d zero [] h = refl
filled d zero (v ∷ vs) h = absurd (omega arith)
filled d (suc n) [] h = ap (λ (r : List ℕ). d ∷ r) (filled d n [] (omega arith))
filled d (suc n) (v ∷ vs) h = sets-cons v (replicate n d) 0 vs ∙ ap (λ (r : List ℕ). v ∷ r) (filled d n vs (omega arith))

-- ---- all programs at a node have as many functions

same_at : {l : List ℕ} {i j k : ℕ} {p q : Ast prog} → At l prog i j p → At l prog i k q → funs p ≡ funs q
unfolding funs
same_at (at-no-funs r) (at-no-funs s) = refl
same_at (at-no-funs r) (at-more-funs s _ _ _ _) = absurd (omega (arith, r.kind, s.kind))
same_at (at-more-funs r _ _ _ _) (at-no-funs s) = absurd (omega (arith, r.kind, s.kind))
same_at {l} (at-more-funs {a = a} r _ _ x _) (at-more-funs {a = b} {j = j} {x = y} s _ _ z _) = ap suc (same_at {k = j} x (subst (λ (c : ℕ). At l prog c j y) (sym s.first ∙ r.first) z))

pub same-many : (value means : ℕ → ℕ) {l : List ℕ} {i : ℕ} {p q : Ast prog} → Holds l i p → Holds l i q → length (part value means p []) ≡ length (part value means q [])
same-many value means {p = p} {q = q} h k = funs-length value means p ∙ same_at h.at k.at ∙ sym (funs-length value means q)
