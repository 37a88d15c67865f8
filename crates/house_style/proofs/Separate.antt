-- In house style no two tokens run together.
use Prim.Native.Nat.{ℕ, zero, suc}
use mathlib.Core.Path.{◌≡◌, refl}
use mathlib.Core.Bool.{Bool, true, false}
use mathlib.Core.List.{List, ◌∷◌}
use Rattle.syntax.specs.Token.{k_name}
use Rattle.syntax.specs.Tree.{Mul, product, Cmp, less, less_eq, greater, greater_eq, equal, unequal}
use Rattle.syntax.specs.Ast as A
use Rattle.syntax.specs.Ast.{Sort}
use Rattle.lexer.specs.Lex.{is_blank, all, kind_in, same, kind_of, bytes}
use Rattle.lexer.proofs.Longest.{pair_of}
use Rattle.house_style.specs.Named as N
use Rattle.house_style.specs.Named.{Named}
use Rattle.house_style.specs.House.{Piece, flat, the, blank, newline, indent, margin, mul_sign, cmp_sign, round, signed, within, laid}
-- not used here: so that texts whose house style was written by hand are looked at before anything is proved of it
use Rattle.house_style.proofs.Lexing.{Apart, blanks}
use Rattle.house_style.proofs.Words.{Clear, other, letter-token, name-token, number-token, single, solid, double}
use Rattle.house_style.proofs.Leaves.{Leaves}

abbrev pub IsName : List ℕ → Type 0
IsName w = kind_of w ≡ k_name

abbrev pub Any : ℕ → Type 0
Any v = Unit {0}

-- ---- single pieces

indented : (d : ℕ) → all is_blank (indent d) ≡ true
unfolding indent all
indented zero = refl
indented (suc d) = indented d

margin-apart : (d : ℕ) {ps : List Piece} → Apart ps → Apart (margin d ∷ ps)
margin-apart d a = blanks (indented d) a

blank-apart : {ps : List Piece} → Apart ps → Apart (blank ∷ ps)
unfolding all
blank-apart a = blanks refl a

line-apart : {ps : List Piece} → Apart ps → Apart (newline ∷ ps)
unfolding all
line-apart a = blanks refl a

module _ {ps : List Piece} where
  open-apart : Apart ps → Apart (the "(" ∷ ps)
  unfolding kind_in same
  open-apart a = solid 40 refl refl refl refl (λ c. refl) a

  close-apart : Apart ps → Apart (the ")" ∷ ps)
  unfolding kind_in same
  close-apart a = solid 41 refl refl refl refl (λ c. refl) a

  lbrace-apart : Apart ps → Apart (the "{" ∷ ps)
  unfolding kind_in same
  lbrace-apart a = solid 123 refl refl refl refl (λ c. refl) a

  rbrace-apart : Apart ps → Apart (the "}" ∷ ps)
  unfolding kind_in same
  rbrace-apart a = solid 125 refl refl refl refl (λ c. refl) a

  semi-apart : Apart ps → Apart (the ";" ∷ ps)
  unfolding kind_in same
  semi-apart a = solid 59 refl refl refl refl (λ c. refl) a

  comma-apart : Apart ps → Apart (the "," ∷ ps)
  unfolding kind_in same
  comma-apart a = solid 44 refl refl refl refl (λ c. refl) a

  minus-apart : Apart ps → Apart (the "-" ∷ ps)
  unfolding kind_in same
  minus-apart a = solid 45 refl refl refl refl (λ c. refl) a

  -- a statement's end
  ended : Apart ps → Apart (the ";" ∷ newline ∷ ps)
  unfolding kind_in same
  ended a = solid 59 refl refl refl refl (λ c. refl) (line-apart a)

  -- ---- operators, with their blanks

  plus-apart : Apart ps → Apart (round "+" ps)
  unfolding kind_in same
  plus-apart a = blank-apart (solid 43 refl refl refl refl (λ c. refl) (blank-apart a))

  less-apart : Apart ps → Apart (round "-" ps)
  unfolding kind_in same
  less-apart a = blank-apart (solid 45 refl refl refl refl (λ c. refl) (blank-apart a))

  assign-apart : Apart ps → Apart (round "=" ps)
  unfolding kind_in same pair_of flat
  assign-apart a = blank-apart (single 61 refl refl refl refl refl (blank-apart a))

  and-apart : Apart ps → Apart (round "&&" ps)
  unfolding kind_in same
  and-apart a = blank-apart (double 38 38 refl refl refl refl (blank-apart a))

  or_apart : Apart ps → Apart (round "||" ps)
  unfolding kind_in same
  or_apart a = blank-apart (double 124 124 refl refl refl refl (blank-apart a))

  dots-apart : Apart ps → Apart (round ".." ps)
  unfolding kind_in same
  dots-apart a = blank-apart (double 46 46 refl refl refl refl (blank-apart a))

  mul-apart : (o : Mul) → Apart ps → Apart (round (mul_sign o) ps)
  unfolding kind_in same
  mul-apart product a = blank-apart (solid 42 refl refl refl refl (λ c. refl) (blank-apart a))

  cmp-apart : (o : Cmp) → Apart ps → Apart (round (cmp_sign o) ps)
  unfolding kind_in same pair_of flat
  cmp-apart less a = blank-apart (single 60 refl refl refl refl refl (blank-apart a))
  cmp-apart less_eq a = blank-apart (double 60 61 refl refl refl refl (blank-apart a))
  cmp-apart greater a = blank-apart (single 62 refl refl refl refl refl (blank-apart a))
  cmp-apart greater_eq a = blank-apart (double 62 61 refl refl refl refl (blank-apart a))
  cmp-apart equal a = blank-apart (double 61 61 refl refl refl refl (blank-apart a))
  cmp-apart unequal a = blank-apart (double 33 61 refl refl refl refl (blank-apart a))

-- brackets, if there are any
within-apart : (b : Bool) (f : List Piece → List Piece) {ps : List Piece} → ((qs : List Piece) → Clear (flat qs) → Apart qs → Apart (f qs)) → Clear (flat ps) → Apart ps → Apart (within b f ps)
unfolding within flat
within-apart true f g c a = open-apart (g _ (other refl) (close-apart a))
within-apart false f g c a = g _ c a

-- an end of a pair
signed-apart : (s : Bool) (v : ℕ) {ps : List Piece} → Clear (flat ps) → Apart ps → Apart (signed s v ps)
signed-apart true v c a = minus-apart (number-token v c a)
signed-apart false v c a = number-token v c a

-- what may follow: no byte that a name goes on with follows an expression, a condition or parameters
abbrev Follows : Sort → List Piece → Type 0
Follows A.expr ps = Clear (flat ps)
Follows A.args ps = Clear (flat ps)
Follows A.mark ps = Unit {0}
Follows A.cond ps = Clear (flat ps)
Follows A.stmt ps = Unit {0}
Follows A.stmts ps = Unit {0}
Follows A.body ps = Unit {0}
Follows A.params ps = Clear (flat ps)
Follows A.fun ps = Unit {0}
Follows A.prog ps = Unit {0}

pub apart : {s : Sort} (n : ℕ) (x : Named s) {ps : List Piece} → Leaves IsName Any x → Follows s ps → Apart ps → Apart (laid n x ps)
unfolding laid Leaves flat all kind_of
apart n (N.number v) h c a = number-token v c a
apart n (N.negative v) h c a = minus-apart (number-token v c a)
apart n (N.name x) h c a = name-token x h c a
apart n (N.call f l) h c a = name-token f h.0 (other refl) (open-apart (apart 0 l h.1 (other refl) (close-apart a)))
apart n (N.times o x y) h c a = within-apart _ _ (λ qs d b. apart _ x h.0 (other refl) (mul-apart o (apart _ y h.1 d b))) c a
apart n (N.plus x y) h c a = within-apart _ _ (λ qs d b. apart _ x h.0 (other refl) (plus-apart (apart _ y h.1 d b))) c a
apart n (N.minus x y) h c a = within-apart _ _ (λ qs d b. apart _ x h.0 (other refl) (less-apart (apart _ y h.1 d b))) c a
apart n N.no_args h c a = a
apart n (N.more_args N.no_args e) h c a = apart 0 e h.1 c a
apart n (N.more_args (N.more_args l x) e) h c a = apart 0 (N.more_args l x) h.0 (other refl) (comma-apart (blanks refl (apart 0 e h.1 c a)))
apart n (N.cmp_mark o) h c a = cmp-apart o a
apart n N.always h c a = letter-token 116 (bytes "rue") refl refl c a
apart n N.never h c a = letter-token 102 (bytes "alse") refl refl c a
apart n (N.compare x (N.cmp_mark o) y) h c a = apart 0 x h.0 (other refl) (cmp-apart o (apart 0 y h.1 c a))
apart n (N.both x y) h c a = apart 0 x h.0 (other refl) (and-apart (apart 0 y h.1 c a))
apart n (N.either x y) h c a = apart 0 x h.0 (other refl) (or_apart (apart 0 y h.1 c a))
apart d N.empty h c a = margin-apart d (ended a)
apart d (N.declare x) h c a = margin-apart d (letter-token 105 (bytes "nt") refl refl (other refl) (blanks refl (name-token x h (other refl) (ended a))))
apart d (N.declare_free x) h c a = margin-apart d (letter-token 105 (bytes "nt") refl refl (other refl) (blanks refl (name-token x h (other refl) (blanks refl (letter-token 102 (bytes "ree") refl refl (other refl) (ended a))))))
apart d (N.declare_own x s v t w) h c a =
    margin-apart d (letter-token 105 (bytes "nt") refl refl (other refl) (blanks refl (name-token x h.0 (other refl) (blanks refl (letter-token 102 (bytes "ree") refl refl (other refl) (blanks refl
    (signed-apart s v (other refl) (dots-apart (signed-apart t w (other refl) (ended a))))))))))
apart d (N.assign x e) h c a = margin-apart d (name-token x h.0 (other refl) (assign-apart (apart 0 e h.1 (other refl) (ended a))))
apart d (N.eval e) h c a = margin-apart d (apart 0 e h (other refl) (ended a))
apart d (N.return e) h c a = margin-apart d (letter-token 114 (bytes "eturn") refl refl (other refl) (blanks refl (apart 0 e h (other refl) (ended a))))
apart d N.fail h c a = margin-apart d (letter-token 102 (bytes "ail") refl refl (other refl) (ended a))
apart d (N.block b) h c a = apart d b h tt a
apart d (N.if_else x s t) h c a =
    margin-apart d (letter-token 105 (bytes "f") refl refl (other refl) (blanks refl (open-apart (apart 0 x h.0 (other refl) (close-apart (blanks refl (apart (suc d) s h.1.0 tt
    (margin-apart d (letter-token 101 (bytes "lse") refl refl (other refl) (blanks refl (apart (suc d) t h.1.1 tt a)))))))))))
apart d (N.while x s) h c a = margin-apart d (letter-token 119 (bytes "hile") refl refl (other refl) (blanks refl (open-apart (apart 0 x h.0 (other refl) (close-apart (blanks refl (apart (suc d) s h.1 tt a)))))))
apart d N.no_stmts h c a = a
apart d (N.more_stmts l s) h c a = apart d l h.0 tt (apart d s h.1 tt a)
apart d (N.braced l) h c a = margin-apart d (lbrace-apart (blanks refl (apart (suc d) l h tt (margin-apart d (rbrace-apart (blanks refl a))))))
apart n N.no_params h c a = a
apart n (N.more_params N.no_params x) h c a = letter-token 105 (bytes "nt") refl refl (other refl) (blanks refl (name-token x h.1 c a))
apart n (N.more_params (N.more_params l y) x) h c a = apart 0 (N.more_params l y) h.0 (other refl) (comma-apart (blanks refl (letter-token 105 (bytes "nt") refl refl (other refl) (blanks refl (name-token x h.1 c a)))))
apart n (N.function f q b) h c a =
    letter-token 105 (bytes "nt") refl refl (other refl) (blanks refl (name-token f h.0 (other refl) (open-apart (apart 0 q h.1.0 (other refl) (close-apart (blanks refl (apart 0 b h.1.1 tt a)))))))
apart n N.no_funs h c a = a
apart n (N.more_funs p f) h c a = apart 0 p h.0 tt (apart 0 f h.1 tt a)
