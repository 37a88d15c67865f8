-- What remarks tells is what Words says, and nothing else is.
use Prim.Native.Nat.{ℕ, ◌+◌, ◌≤◌, ◌<◌}
use native.Mathlib.Omega.{arith}
use mathlib.Core.Path.{◌≡◌, refl, sym, ap, subst, ◌∙◌}
use mathlib.Core.Bool.{Bool, true, false, cond, not}
use mathlib.Core.List.Memᴰ.{cast}
use mathlib.Core.List.{List, ◌++◌}
use mathlib.Core.Logic.{◌↔◌}
use lib.ListN.{length, drop, length-map, length-append, length-drop}
use lib.Dec.{ltb}
use borrow.Author.Tests.{ltb-true, ltb-false, not-true}
use Rattle.lexer.specs.Lex.{Token}
use Rattle.lexer.proofs.Theorems.{ascending, lexed-tokens}
use Rattle.syntax.specs.Abstract.{ast}
use Rattle.syntax.specs.Tree.{width}
use Rattle.events.specs.Event.{Event, events}
use Rattle.semantics.specs.Demand.{◌∈◌}
use Rattle.text_rules.specs.Rules.{Head, heads}
use Rattle.text_rules.specs.Resolve.{main_of}
use Rattle.text_rules.proofs.Counts.{few-functions, main-lt}
use Rattle.checker.specs.Check as C
use Rattle.checker.specs.Check.{Verdict, accepted, kinds, places, Source, source_of, same_in, main_in, end_of, checked}
use Rattle.checker.specs.Accepted.{KeepsRules}
use Rattle.checker.proofs.Exactly.{read-so, exactly}
use Rattle.checker.proofs.Refusals.{refused-so, refused-only}
use Rattle.remarks.specs.Remarks.{Call, calls_of, chained, offsets_from, offsets_in, offsets_of, Reply, refused, counted, Left, left, answering, remarks_of}
use Rattle.remarks.specs.Words.{Leads, here, Unreached, Remarkable, InOrder, Says, too_short, as-check, writes}
use Rattle.remarks.proofs.Marking.{clash, callee-below}
use Rattle.remarks.proofs.Chains.{chain-exact}
use Rattle.remarks.proofs.Rising.{Rises, names-rise, places-rise, below_in, each_below, rises-so, same-members}
use Rattle.remarks.proofs.Writing.{few, only-told, all_told, offsets-rise}
use Rattle.remarks.proofs.Places.{low-place, wide}
use Rattle.remarks.proofs.Telling.{offsets_are, fifteen, enough}

-- ---- the offsets of a text that keeps the rules

module _ {text : List ℕ} (k : KeepsRules text) where
  abbrev s : Source
  s = source_of text k.tokens

  abbrev es : List Event
  es = events (ast k.tree)

  abbrev hs : List Head
  hs = heads es

  abbrev cs : List Call
  cs = calls_of (same_in s) es

  abbrev main : ℕ
  main = main_of (main_in s) hs

  abbrev told : ℕ → Bool
  told g = not (chained cs (length hs) main g)

  -- as they are computed
  abbrev computed : List ℕ
  computed = offsets_from told (places k.tokens) 0 hs

  offsets-so : offsets_of text ≡ computed
  unfolding offsets_in
  offsets-so = offsets_are text k.tokens k.tree k.lexes (read-so (kinds k.tokens) k.tree k.grammar)

  -- ---- which they are

  main-below : main < length hs
  main-below = main-lt (main_in s) (end_of s) hs k.main

  led : (g : ℕ) → (chained cs (length hs) main g ≡ true) ↔ Leads cs main g
  led g = chain-exact cs (length hs) main (callee-below (same_in s) hs 0 es) main-below g

  told-unreached : (g : ℕ) → g < length hs → told g ≡ true → Unreached cs (length hs) main g
  told-unreached g h e =
      let f = not-true (chained cs (length hs) main g) e in
      record { function = h; other = λ q. clash ((led g).1 (subst (λ (x : ℕ). Leads cs main x) (sym q) here)) f; never = λ l. clash ((led g).1 l) f }

  unreached-told : (g : ℕ) → Unreached cs (length hs) main g → told g ≡ true
  unreached-told g u = go (chained cs (length hs) main g) refl
    where
      go : (b : Bool) → chained cs (length hs) main g ≡ b → not b ≡ true
      go true e = absurd (u.never ((led g).0 e))
      go false e = refl

  from_zero : (n : ℕ) → 0 + n ≡ n
  from_zero n = omega arith

  computed-belongs : (o : ℕ) → o ∈ computed → Remarkable k o
  computed-belongs o m =
      let t = only-told told (places k.tokens) 0 hs o m in
      record { number = t.number; unreached = told-unreached t.number t.inside (subst (λ (n : ℕ). told n ≡ true) (from_zero t.number) t.holds); stands = t.stands }

  belongs-computed : (o : ℕ) → Remarkable k o → o ∈ computed
  belongs-computed o r =
      cast r.stands
      (all_told told (places k.tokens) 0 hs r.number r.unreached.function (subst (λ (n : ℕ). told n ≡ true) (sym (from_zero r.number)) (unreached-told r.number r.unreached)))

  -- ---- in which order

  as_wide : length k.tokens ≡ width k.tree + 1
  as_wide = sym (length-map k.tokens (λ (t : Token). t.kind)) ∙ wide (kinds k.tokens) k.tree k.grammar

  rises : Rises 0 computed 2049
  rises =
      offsets-rise told (places k.tokens) (width k.tree) 2049
      (λ i j h l. places-rise (ascending (lexed-tokens text k.tokens k.lexes).1) i j h (omega (arith, l, as_wide)))
      (λ i h. omega (arith, low-place text k.tokens k.lexes i (omega (arith, h, as_wide))))
      0 0 hs (names-rise k.tree k.grammar.numbers) (λ i h l. omega arith)

  in_order : InOrder (Remarkable k) (offsets_of text)
  in_order = subst (InOrder (Remarkable k)) (sym offsets-so) (record { all = belongs-computed; only = computed-belongs; ascends = each_below rises })

  only-these : (os : List ℕ) → InOrder (Remarkable k) os → os ≡ offsets_of text
  only-these os w =
      same-members (rises-so 0 2049 os (λ o m. below_in rises o (belongs-computed o (w.only o m))) w.ascends (λ h. omega arith)) rises
      (λ o m. belongs-computed o (w.only o m)) (λ o m. w.all o (computed-belongs o m))
      ∙ sym offsets-so

  -- THEOREM. The offsets of a text that keeps the rules are the list that has each that belongs and no other, in ascending order; and no other list is.
  pub offsets-exact : (os : List ℕ) → (os ≡ offsets_of text) ↔ InOrder (Remarkable k) os
  offsets-exact os = (λ e. subst (InOrder (Remarkable k)) (sym e) in_order, only-these os)

  few-kept : length (offsets_of text) ≤ 16
  few-kept = omega (arith, ap length offsets-so, few told (places k.tokens) 0 hs, few-functions es k.counts)

-- THEOREM. They have a place in sixteen.
pub few-offsets : (text : List ℕ) → checked text ≡ accepted → length (offsets_of text) ≤ 16
few-offsets text e = few-kept ((exactly text).0 e)

-- ---- the operation

module _ (text before : List ℕ) where
  says_so : Says text before (remarks_of text before).words (remarks_of text before).reply
  unfolding remarks_of
  says_so = go (ltb (length before) 16) refl
    where
      checks : 16 ≤ length before → (v : Verdict) → checked text ≡ v → Says text before (answering (offsets_of text) before v).words (answering (offsets_of text) before v).reply
      checks h (C.refused n p) e = as-check h (refused-so text n p e) refl
      checks h accepted e = let k = (exactly text).0 e in writes h k (in_order k) refl

      go : (b : Bool) → ltb (length before) 16 ≡ b
          → Says text before (answering (offsets_of text) before (cond b (C.refused 15 0) (checked text))).words (answering (offsets_of text) before (cond b (C.refused 15 0) (checked text))).reply
      go true e = too_short (ltb-true (length before) 16 e) refl
      go false e = checks (ltb-false (length before) 16 e) (checked text) refl

  only_so : {after : List ℕ} {r : Reply} → Says text before after r → left r after ≡ remarks_of text before
  only_so (too_short h e) = ap (left (refused 15 0)) e ∙ fifteen text before h
  only_so (as-check {n = n} {p = p} h r e) = ap (left (refused n p)) e ∙ ap (answering (offsets_of text) before) (sym (refused-only text n p r)) ∙ enough text before h
  only_so (writes {os = os} h k w e) =
      ap (left (counted (length os))) e
      ∙ ap (λ (xs : List ℕ). left (counted (length xs)) (xs ++ drop (length xs) before)) (only-these k os w)
      ∙ ap (answering (offsets_of text) before) (sym ((exactly text).1 k))
      ∙ enough text before h

  -- THEOREM. Remarks answers and leaves what these words say, and they say so of nothing else.
  pub remarks-exact : (after : List ℕ) (r : Reply) → (left r after ≡ remarks_of text before) ↔ Says text before after r
  remarks-exact after r = (λ e. subst (λ (l : Left). Says text before l.words l.reply) (sym e) says_so, only_so)

  -- THEOREM. The slice keeps its length.
  pub same_size : length (remarks_of text before).words ≡ length before
  unfolding remarks_of
  same_size = go (ltb (length before) 16) refl
    where
      checks : 16 ≤ length before → (v : Verdict) → checked text ≡ v → length (answering (offsets_of text) before v).words ≡ length before
      checks h (C.refused n p) e = refl
      checks h accepted e = length-append (offsets_of text) (drop (length (offsets_of text)) before) ∙ omega (arith, h, few-offsets text e, length-drop (length (offsets_of text)) before)

      go : (b : Bool) → ltb (length before) 16 ≡ b → length (answering (offsets_of text) before (cond b (C.refused 15 0) (checked text))).words ≡ length before
      go true e = refl
      go false e = checks (ltb-false (length before) 16 e) (checked text) refl
