-- What is laid out before other pieces does not depend on them: a part can be written by itself, and then what follows it.
use Prim.Native.Nat.{ℕ, suc}
use mathlib.Core.Path.{◌≡◌, refl, sym, ap, ◌∙◌}
use mathlib.Core.Bool.{Bool, true, false}
use mathlib.Core.List.{List, [], ◌∷◌, ◌++◌, append_assoc}
use lib.Dec.{ltb}
use Rattle.syntax.specs.Ast.{Sort}
use Rattle.house_style.specs.Named as N
use Rattle.house_style.specs.Named.{Named}
use Rattle.house_style.specs.House.{Piece, word, gap, flat, signed, within, laid}

pub flat_append : (ps qs : List Piece) → flat (ps ++ qs) ≡ flat ps ++ flat qs
unfolding flat
flat_append [] qs = refl
flat_append (word bs ∷ ps) qs = ap (λ (l : List ℕ). bs ++ l) (flat_append ps qs) ∙ sym (append_assoc bs (flat ps) (flat qs))
flat_append (gap bs ∷ ps) qs = ap (λ (l : List ℕ). bs ++ l) (flat_append ps qs) ∙ sym (append_assoc bs (flat ps) (flat qs))

-- f lays out pieces of its own before what follows
pub record Adds (f : List Piece → List Piece) : Type 0 where
  pub adds : (ps : List Piece) → f ps ≡ f [] ++ ps

none : Adds (λ ps. ps)
none = record { adds = λ ps. refl }

pub before : (p : Piece) {f : List Piece → List Piece} → Adds f → Adds (λ ps. p ∷ f ps)
before p h = record { adds = λ ps. ap (p ∷◌) (h.adds ps) }

pub last : (p : Piece) → Adds (λ ps. p ∷ ps)
last p = record { adds = λ ps. refl }

pub then : {f g : List Piece → List Piece} → Adds f → Adds g → Adds (λ ps. f (g ps))
then {f} {g} h k = record { adds = λ ps. h.adds (g ps) ∙ ap (λ (l : List Piece). f [] ++ l) (k.adds ps) ∙ sym (append_assoc (f []) (g []) ps) ∙ ap (λ (l : List Piece). l ++ ps) (sym (h.adds (g []))) }

in-brackets : (b : Bool) {f : List Piece → List Piece} → Adds f → Adds (λ ps. within b f ps)
unfolding within
in-brackets true h = before _ (then h (last _))
in-brackets false h = h

signed-adds : (a : Bool) (v : ℕ) → Adds (λ ps. signed a v ps)
signed-adds true v = before _ (last _)
signed-adds false v = last _

pub laid-adds : {s : Sort} (n : ℕ) (x : Named s) → Adds (λ ps. laid n x ps)
unfolding laid
laid-adds n (N.number v) = last _
laid-adds n (N.negative v) = before _ (last _)
laid-adds n (N.name x) = last _
laid-adds n (N.call f a) = before _ (before _ (then (laid-adds 0 a) (last _)))
laid-adds n (N.times o a b) = in-brackets (ltb 1 n) (then (laid-adds 1 a) (before _ (before _ (before _ (laid-adds 2 b)))))
laid-adds n (N.plus a b) = in-brackets (ltb 0 n) (then (laid-adds 0 a) (before _ (before _ (before _ (laid-adds 1 b)))))
laid-adds n (N.minus a b) = in-brackets (ltb 0 n) (then (laid-adds 0 a) (before _ (before _ (before _ (laid-adds 1 b)))))
laid-adds n N.no_args = none
laid-adds n (N.more_args N.no_args e) = laid-adds 0 e
laid-adds n (N.more_args (N.more_args l x) e) = then (laid-adds 0 (N.more_args l x)) (before _ (before _ (laid-adds 0 e)))
laid-adds n (N.cmp_mark o) = before _ (before _ (last _))
laid-adds n N.always = last _
laid-adds n N.never = last _
laid-adds n (N.compare a (N.cmp_mark o) b) = then (laid-adds 0 a) (before _ (before _ (before _ (laid-adds 0 b))))
laid-adds n (N.both a b) = then (laid-adds 0 a) (before _ (before _ (before _ (laid-adds 0 b))))
laid-adds n (N.either a b) = then (laid-adds 0 a) (before _ (before _ (before _ (laid-adds 0 b))))
laid-adds d N.empty = before _ (before _ (last _))
laid-adds d (N.declare x) = before _ (before _ (before _ (before _ (before _ (last _)))))
laid-adds d (N.declare_free x) = before _ (before _ (before _ (before _ (before _ (before _ (before _ (last _)))))))
laid-adds d (N.declare_own x a v b w) = before _ (before _ (before _ (before _ (before _ (before _ (before _ (then (signed-adds a v) (before _ (before _ (before _ (then (signed-adds b w) (before _ (last _)))))))))))))
laid-adds d (N.assign x e) = before _ (before _ (before _ (before _ (before _ (then (laid-adds 0 e) (before _ (last _)))))))
laid-adds d (N.eval e) = before _ (then (laid-adds 0 e) (before _ (last _)))
laid-adds d (N.return e) = before _ (before _ (before _ (then (laid-adds 0 e) (before _ (last _)))))
laid-adds d N.fail = before _ (before _ (before _ (last _)))
laid-adds d (N.block b) = laid-adds d b
laid-adds d (N.if_else c s t) = before _ (before _ (before _ (before _ (then (laid-adds 0 c) (before _ (before _ (then (laid-adds (suc d) s) (before _ (before _ (before _ (laid-adds (suc d) t)))))))))))
laid-adds d (N.while c s) = before _ (before _ (before _ (before _ (then (laid-adds 0 c) (before _ (before _ (laid-adds (suc d) s)))))))
laid-adds d N.no_stmts = none
laid-adds d (N.more_stmts l s) = then (laid-adds d l) (laid-adds d s)
laid-adds d (N.braced l) = before _ (before _ (before _ (then (laid-adds (suc d) l) (before _ (before _ (last _))))))
laid-adds n N.no_params = none
laid-adds n (N.more_params N.no_params x) = before _ (before _ (last _))
laid-adds n (N.more_params (N.more_params l y) x) = then (laid-adds 0 (N.more_params l y)) (before _ (before _ (before _ (before _ (last _)))))
laid-adds n (N.function f q b) = before _ (before _ (before _ (before _ (then (laid-adds 0 q) (before _ (before _ (laid-adds 0 b)))))))
laid-adds n N.no_funs = none
laid-adds n (N.more_funs p f) = then (laid-adds 0 p) (laid-adds 0 f)

-- THEOREM. The bytes of a part, followed by others.
pub flat-laid : {s : Sort} (n : ℕ) (x : Named s) (ps : List Piece) → flat (laid n x ps) ≡ flat (laid n x []) ++ flat ps
flat-laid n x ps = ap flat ((laid-adds n x).adds ps) ∙ flat_append (laid n x []) ps
