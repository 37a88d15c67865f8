-- The search by replay: each path is run from the start of main, with the outcomes of the choices made so far forced, and true at each new choice.
-- A place in the search is the list of the choices' outcomes that lead to it.
use mathlib.Core.Path.{◌≡◌, refl, sym, ap, ◌∙◌}
use mathlib.Core.Bool.{Bool, true, false}
use mathlib.Core.Option.{Option, none, some}
use mathlib.Core.List.{List, [], ◌∷◌, ◌++◌, append_assoc, append-nil}
use Rattle.semantics.specs.Search.{Move, plain, stepped, back, Paths, leaf, onward, fork, moves}
use Rattle.simulation.specs.Lister.{following, next}

-- the tree has these choices
unfoldable pub Has : Paths → List Bool → Type 0
Has t [] = Unit {0}
Has (leaf ms) (o ∷ p) = ⊥
Has (onward t) (o ∷ p) = Has t (o ∷ p)
Has (fork a b) (true ∷ p) = Has a p
Has (fork a b) (false ∷ p) = Has b p

-- what is left to do where the choices p were just made, and after the path of the choices p has ended
unfoldable pub ahead : Paths → List Bool → List Move
ahead t [] = moves t
ahead (leaf ms) (o ∷ p) = []
ahead (onward t) (o ∷ p) = ahead t (o ∷ p)
ahead (fork a b) (true ∷ p) = ahead a p ++ plain back ∷ moves b
ahead (fork a b) (false ∷ p) = ahead b p

unfoldable pub after : Paths → List Bool → List Move
after t [] = []
after (leaf ms) (o ∷ p) = []
after (onward t) (o ∷ p) = after t (o ∷ p)
after (fork a b) (true ∷ p) = after a p ++ plain back ∷ moves b
after (fork a b) (false ∷ p) = after b p

-- the moves of a path past its forced choices, and the choices of the whole path
unfoldable pub path-moves : Paths → List Move
path-moves (leaf ms) = ms
path-moves (onward t) = plain stepped ∷ path-moves t
path-moves (fork a b) = path-moves a

unfoldable pub truths : Paths → List Bool
truths (leaf ms) = []
truths (onward t) = truths t
truths (fork a b) = true ∷ truths a

unfoldable pub replayed : Paths → List Bool → List Move
replayed t [] = path-moves t
replayed (leaf ms) (o ∷ p) = []
replayed (onward t) (o ∷ p) = replayed t (o ∷ p)
replayed (fork a b) (true ∷ p) = replayed a p
replayed (fork a b) (false ∷ p) = replayed b p

unfoldable pub chosen : Paths → List Bool → List Bool
chosen t [] = truths t
chosen (leaf ms) (o ∷ p) = []
chosen (onward t) (o ∷ p) = chosen t (o ∷ p)
chosen (fork a b) (true ∷ p) = true ∷ chosen a p
chosen (fork a b) (false ∷ p) = false ∷ chosen b p

after-step : (t : Paths) (p : List Bool) → after (onward t) p ≡ after t p
unfolding after
after-step t [] = refl
after-step t (o ∷ p) = refl

-- a path does its moves, and then what is left after it
moves-path-moves : (t : Paths) → moves t ≡ path-moves t ++ after t (truths t)
unfolding moves path-moves after truths
moves-path-moves (leaf ms) = sym (append-nil ms)
moves-path-moves (onward t) = ap (λ l. plain stepped ∷ l) (moves-path-moves t ∙ ap (λ l. path-moves t ++ l) (sym (after-step t (truths t))))
moves-path-moves (fork a b) = ap (λ l. l ++ plain back ∷ moves b) (moves-path-moves a) ∙ append_assoc (path-moves a) (after a (truths a)) (plain back ∷ moves b)

pub one-path : (t : Paths) (p : List Bool) → Has t p → ahead t p ≡ replayed t p ++ after t (chosen t p)
unfolding ahead replayed after chosen Has
one-path t [] h = moves-path-moves t
one-path (leaf _) (o ∷ p) h = elim h [ ]
one-path (onward t) (o ∷ p) h = one-path t (o ∷ p) h ∙ ap (λ l. replayed t (o ∷ p) ++ l) (sym (after-step t (chosen t (o ∷ p))))
one-path (fork a b) (true ∷ p) h = ap (λ l. l ++ plain back ∷ moves b) (one-path a p h) ∙ append_assoc (replayed a p) (after a (chosen a p)) (plain back ∷ moves b)
one-path (fork a b) (false ∷ p) h = one-path b p h

-- then the newest true choice is taken back, or the search has ended
abbrev pub onwards : Paths → Option (List Bool) → List Move
onwards t none = []
onwards t (some q) = plain back ∷ ahead t q

pub take_back : (t : Paths) (p : List Bool) → Has t p → after t p ≡ onwards t (next p)
unfolding after ahead next Has moves
take_back t [] h = refl
take_back (leaf _) (o ∷ p) h = elim h [ ]
take_back (onward t) (o ∷ p) h = take_back t (o ∷ p) h ∙ go o (next p)
  where
    go : (o : Bool) (x : Option (List Bool)) → onwards t (following o x) ≡ onwards (onward t) (following o x)
    go true none = refl
    go false none = refl
    go true (some q) = refl
    go false (some q) = refl
take_back (fork a b) (true ∷ p) h = ap (λ l. l ++ plain back ∷ moves b) (take_back a p h) ∙ go (next p)
  where
    go : (x : Option (List Bool)) → onwards a x ++ plain back ∷ moves b ≡ onwards (fork a b) (following true x)
    go none = refl
    go (some q) = refl
take_back (fork a b) (false ∷ p) h = take_back b p h ∙ go (next p)
  where
    go : (x : Option (List Bool)) → onwards b x ≡ onwards (fork a b) (following false x)
    go none = refl
    go (some q) = refl

-- both keep to the tree
has-truths : (t : Paths) → Has t (truths t)
unfolding Has truths
has-truths (leaf ms) = tt
has-truths (onward t) = has-step t (truths t) (has-truths t)
  where
    has-step : (t : Paths) (p : List Bool) → Has t p → Has (onward t) p
    has-step t [] h = tt
    has-step t (o ∷ p) h = h
has-truths (fork a b) = has-truths a

pub has_chosen : (t : Paths) (p : List Bool) → Has t p → Has t (chosen t p)
unfolding Has chosen
has_chosen t [] h = has-truths t
has_chosen (leaf _) (o ∷ p) h = elim h [ ]
has_chosen (onward t) (o ∷ p) h = has-step t (chosen t (o ∷ p)) (has_chosen t (o ∷ p) h)
  where
    has-step : (t : Paths) (p : List Bool) → Has t p → Has (onward t) p
    has-step t [] h = tt
    has-step t (o ∷ p) h = h
has_chosen (fork a b) (true ∷ p) h = has_chosen a p h
has_chosen (fork a b) (false ∷ p) h = has_chosen b p h

abbrev pub HasSome : Paths → Option (List Bool) → Type 0
HasSome t none = Unit {0}
HasSome t (some q) = Has t q

pub has-next : (t : Paths) (p : List Bool) → Has t p → HasSome t (next p)
unfolding Has next
has-next t [] h = tt
has-next (leaf _) (o ∷ p) h = elim h [ ]
has-next (onward t) (o ∷ p) h = go o (next p) (has-next t (o ∷ p) h)
  where
    go : (o : Bool) (x : Option (List Bool)) → HasSome t (following o x) → HasSome (onward t) (following o x)
    go true none h = h
    go false none h = tt
    go true (some q) h = h
    go false (some q) h = h
has-next (fork a b) (true ∷ p) h = go (next p) (has-next a p h)
  where
    go : (x : Option (List Bool)) → HasSome a x → HasSome (fork a b) (following true x)
    go none h = tt
    go (some q) h = h
has-next (fork a b) (false ∷ p) h = go (next p) (has-next b p h)
  where
    go : (x : Option (List Bool)) → HasSome b x → HasSome (fork a b) (following false x)
    go none h = tt
    go (some q) h = h
