-- The bytes of a part by those of its parts, in the order in which they are put.
use Prim.Native.Nat.{ℕ, zero, suc, ◌*◌}
use mathlib.Core.Path.{◌≡◌, refl, sym, ap, ◌∙◌}
use mathlib.Core.Bool.{Bool, true, false}
use mathlib.Core.List.{List, [], ◌∷◌, ◌++◌, append_assoc, append-nil}
use native.Mathlib.Omega.{arith}
use lib.ListN.{replicate}
use Rattle.syntax.specs.Ast.{Sort}
use Rattle.printing.specs.Written.{blanks}
use Rattle.house_style.specs.Named.{Named}
use Rattle.house_style.specs.House.{Piece, flat, indent, within, laid, the}
use Rattle.house_style.proofs.Adding.{Adds, flat_append, flat-laid}
use Rattle.printing.proofs.Puts.{and_then, put_as}
use Rattle.syntax.specs.Ast.{Ast}
use Rattle.syntax.specs.Source.{Source}
use Rattle.syntax.specs.Table.{Holds}
use Rattle.writer.specs.Parts.{Puts, Lays, Lines, shown_in, line_bytes, if_so}
use Rattle.writer.specs.declared.Pen.{Pen}

-- one part, then another; a part under another name; a tree, and a line
pub puts-then : {o m w : Pen} {a b : List ℕ} → Puts o m a → Puts m w b → Puts o w (a ++ b)
puts-then x y = record { same = y.same ∙ x.same; put = and_then x.put y.put }

pub puts-as : {o w : Pen} {a b : List ℕ} → a ≡ b → Puts o w a → Puts o w b
puts-as e x = record { same = x.same; put = put_as e x.put }

pub lays-puts : {s : Source} {l : List ℕ} {i n : ℕ} {o w : Pen} {u : Sort} → Lays s l i n o w → (t : Ast u) → Holds l i t → Puts o w (shown_in s n t)
lays-puts x t h = record { same = x.same; put = x.is t h }

pub lines-puts : {s : Source} {l : List ℕ} {i d : ℕ} {head tail : List ℕ} {o w : Pen} {u : Sort} → Lines s l i d head tail o w → (t : Ast u) → Holds l i t → Puts o w (line_bytes d head (shown_in s 0 t) tail)
lines-puts x t h = record { same = x.same; put = x.is t h }

pub indent-blanks : (d : ℕ) → indent d ≡ blanks (2 * d)
unfolding indent
indent-blanks zero = refl
indent-blanks (suc d) =
    let e : suc (suc (2 * d)) ≡ 2 * suc d = omega arith in
    ap (λ (l : List ℕ). 32 ∷ 32 ∷ l) (indent-blanks d) ∙ ap (λ (m : ℕ). replicate m 32) e

-- brackets, if there are any
pub bracket-bytes : (b : Bool) (f : List Piece → List Piece) → Adds f → flat (within b f []) ≡ (if_so b (40 ∷ []) ++ flat (f [])) ++ if_so b (41 ∷ [])
unfolding within flat
bracket-bytes true f h = ap (40 ∷◌) (ap flat (h.adds (the ")" ∷ [])) ∙ flat_append (f []) (the ")" ∷ []))
bracket-bytes false f h = sym (append-nil (flat (f [])))

-- two parts with a sign between
pub two_bytes : {s u : Sort} (m n : ℕ) (x : Named s) (y : Named u) (sign : List ℕ) (ps : List Piece) → flat ps ≡ sign ++ flat (laid n y []) → flat (laid m x ps) ≡ (flat (laid m x []) ++ sign) ++ flat (laid n y [])
two_bytes m n x y sign ps e = flat-laid m x ps ∙ ap (λ (l : List ℕ). flat (laid m x []) ++ l) e ∙ sym (append_assoc (flat (laid m x [])) sign (flat (laid n y [])))

-- as they are put: one after the other
pub in_order : (a b c d e : List ℕ) → (a ++ ((b ++ c) ++ d)) ++ e ≡ (((a ++ b) ++ c) ++ d) ++ e
in_order a b c d e = ap (λ (l : List ℕ). l ++ e) (sym (append_assoc a (b ++ c) d) ∙ ap (λ (l : List ℕ). l ++ d) (sym (append_assoc a b c)))
