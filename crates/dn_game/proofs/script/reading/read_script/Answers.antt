-- A line of a script is that of one event.
use Rattle.std.proofs.Common.{◌≡◌, ℕ, cond, eqb, List, [], ◌∷◌, ◌++◌, append_assoc, refl, sym, ap, ap₂, ◌∙◌, subst, arith, ◌+◌, suc, length, Result, Ok, Err, inl, inr, is_ok, true, rules}
use Rattle.std.specs.{Prelude.codes, List.slice_split, Str.bytes_eq, Str.Parse.digits_value}
use Rattle.std.proofs.lemmas.{List.Splits.{slice_split_at, slice_split_none}, Iterator.Consumers.{YieldsList-turn, YieldsList-end}, Iterator.Splits.YieldsList-from_slice_split, List.length_push, Bool.false≢true}
use Rattle.dn_machine.specs.{declared.events.Event.Event, declared.events.Event.TheVariants.{Build, Give, Send, Deliver, Run, Quit, Stop}}
use Rattle.dn_game.specs.{Scripts.{IsNumber, AreKeys, HasNoSpace, IsLineOf, IsSkipped, IsBad, AreEventsOf, none, skipped, told, StandsBehind, IsReadAs, IsSameButMemory}, declared.script.reading.ScriptFault.ScriptFault}
use Rattle.dn_game.specs.{declared.script.reading.ScriptFault.TheVariants.{TooLong, Line, Memory}}
use Rattle.dn_game.proofs.{Scripts.{one_keys, number_lacks, keys_lack, one_way, IsNext, nothing_read, more_skipped, more_told, bad_line, no_room, all_read}, script.reading.read_script.Goals.In-Some}
use Rattle.dn_game.proofs.script.reading.read_script.Goals as goal

number_no_space : (word : List ℕ) (n : ℕ) → IsNumber word n → HasNoSpace word
number_no_space word n h = number_lacks 32 word n (omega arith) h

words : List ℕ → List (List ℕ)
words line = slice_split (λ byte. eqb byte 32) line

-- words without spaces are the words of their line
one_word : (a : List ℕ) → HasNoSpace a → words a ≡ a ∷ []
unfolding words
one_word a p = slice_split_none (λ byte. eqb byte 32) a p

two_words : (a b : List ℕ) → HasNoSpace a → HasNoSpace b → words ((a ++ codes " ") ++ b) ≡ a ∷ b ∷ []
unfolding words
two_words a b p q = grind (arith, words, append_assoc, slice_split_at, one_word)

-- the event that words are, where a build has these keys
event_of : ℕ → List (List ℕ) → Event
event_of keys (verb ∷ one ∷ []) =
    let n = digits_value 10 one in
    cond (bytes_eq verb (codes "deliver")) (Deliver n)
    (cond (bytes_eq verb (codes "run")) (Run n) (cond (bytes_eq verb (codes "quit")) (Quit n) (Stop n)))
event_of keys (verb ∷ one ∷ two ∷ []) =
    let n = digits_value 10 one in
    cond (bytes_eq verb (codes "build")) (Build n keys) (Send n (digits_value 10 two))
event_of keys _ = Stop 0

-- the keys of a build, and others elsewhere
keys_or : Event → ℕ → ℕ
keys_or (Build node keys) others = keys
keys_or _ others = others

-- a number behind a word
told_number : (verb word line : List ℕ) (keys number : ℕ) (make : ℕ → Event) → IsNumber word number
    → words line ≡ verb ∷ words word → event_of keys (verb ∷ word ∷ []) ≡ make (digits_value 10 word)
    → event_of keys (words line) ≡ make number
told_number verb word line keys number make n same e = grind (arith, event_of, one_word, number_no_space)

told_event : (others : ℕ) (line : List ℕ) (e : Event) → IsLineOf e line
    → event_of (keys_or e others) (words line) ≡ e
unfolding event_of words keys_or
told_event others line (Deliver flight) (word, number, same) =
    told_number (codes "deliver") word line others flight (λ n. Deliver n) number (ap words same) refl
told_event others line (Run node) (word, number, same) =
    told_number (codes "run") word line others node (λ n. Run n) number (ap words same) refl
told_event others line (Quit node) (word, number, same) =
    told_number (codes "quit") word line others node (λ n. Quit n) number (ap words same) refl
told_event others line (Stop node) (word, number, same) =
    told_number (codes "stop") word line others node (λ n. Stop n) number (ap words same) refl
told_event others line (Give node command) never = absurd never
told_event others line (Send node to) (n, m, number, other, same) =
    ap (λ l. event_of others (words l)) same ∙ ap (λ w. event_of others (codes "send" ∷ w))
    (two_words n m (number_no_space n node number) (number_no_space m to other))
    ∙ ap₂ (λ x y. Send x y) (sym number.value) (sym other.value)
told_event others line (Build node keys) (n, k, number, held, same) =
    ap (λ l. event_of keys (words l)) same ∙ ap (λ w. event_of keys (codes "build" ∷ w))
    (two_words n k (number_no_space n node number) (keys_lack 32 k keys refl refl held))
    ∙ ap (λ x. Build x keys) (sym number.value)

-- two events of a line have the same keys, where they have any
agreed_keys : (line : List ℕ) (a b : Event) → IsLineOf a line → IsLineOf b line
    → keys_or b (keys_or a 0) ≡ keys_or a (keys_or b 0)
unfolding keys_or
agreed_keys line (Build node keys) (Build other down) (n, k, number, held, same) (m, l, third, pressed, too) =
    let text : (n ++ codes " ") ++ k ≡ (m ++ codes " ") ++ l = cc in
    let words = one_way _ n k m l (number_no_space n node number) (number_no_space m other third) refl text in
    one_keys k down keys (subst (λ w. AreKeys w down) words.1 pressed) held
agreed_keys line (Build node keys) (Give other command) p q = refl
agreed_keys line (Build node keys) (Send other to) p q = refl
agreed_keys line (Build node keys) (Deliver flight) p q = refl
agreed_keys line (Build node keys) (Run other) p q = refl
agreed_keys line (Build node keys) (Quit other) p q = refl
agreed_keys line (Build node keys) (Stop other) p q = refl
agreed_keys line (Give node command) b p q = refl
agreed_keys line (Send node to) b p q = refl
agreed_keys line (Deliver flight) b p q = refl
agreed_keys line (Run node) b p q = refl
agreed_keys line (Quit node) b p q = refl
agreed_keys line (Stop node) b p q = refl

one_event : (line : List ℕ) (a b : Event) → IsLineOf a line → IsLineOf b line → a ≡ b
one_event line a b p q =
    sym (told_event (keys_or b 0) line a p) ∙ ap (λ k. event_of k (words line))
    (sym (agreed_keys line a b p q)) ∙ told_event (keys_or a 0) line b q

-- the line of an event is not skipped
told_not_skipped : (line : List ℕ) (e : Event) → IsLineOf e line → ¬ IsSkipped line
told_not_skipped line e p s = grind arith

-- lines have their events in one way
same_events : {all : List (List ℕ)} {a b : List Event} → AreEventsOf all a → AreEventsOf all b → a ≡ b
same_events none none = refl
same_events (skipped s p) (skipped t q) = same_events p q
same_events (skipped s p) (told t q) = absurd (told_not_skipped _ _ t s)
same_events (told s p) (skipped t q) = absurd (told_not_skipped _ _ s t)
same_events (told s p) (told t q) = ap₂ (λ e es. e ∷ es) (one_event _ _ _ s t) (same_events p q)

-- whatever events a line has, the lines behind it have theirs
events_behind : {line : List ℕ} {more : List (List ℕ)} {events : List Event}
    → AreEventsOf (line ∷ more) events → (rest : List Event) × AreEventsOf more rest
events_behind (skipped s p) = (_, p)
events_behind (told s p) = (_, p)

-- none of these lines is bad
not_bad : (before : List (List ℕ)) (line : List ℕ) (after : List (List ℕ)) (events : List Event)
    → AreEventsOf (before ++ line ∷ after) events → ¬ IsBad line
not_bad [] line after _ (skipped s p) bad = bad.0 s
not_bad [] line after _ (told s p) bad = bad.1 _ s
not_bad (x ∷ before) line after _ p bad = not_bad before line after _ (events_behind p).1 bad

-- two first bad lines are one
one_place : (b c : List (List ℕ)) (k l : List ℕ) (y z : List (List ℕ)) (es fs : List Event)
    → b ++ k ∷ y ≡ c ++ l ∷ z → AreEventsOf b es → AreEventsOf c fs → IsBad k → IsBad l → length b ≡ length c
one_place [] [] k l y z es fs e p q bad worse = refl
one_place [] (x ∷ c) k l y z es fs e p q bad worse =
    let same : k ≡ x = cc in
    absurd (not_bad [] x c fs q (subst IsBad same bad))
one_place (x ∷ b) [] k l y z es fs e p q bad worse =
    let same : l ≡ x = cc in
    absurd (not_bad [] x b es p (subst IsBad same worse))
one_place (v ∷ b) (w ∷ c) k l y z _ _ e p q bad worse =
    let rest : b ++ k ∷ y ≡ c ++ l ∷ z = cc in
    ap suc (one_place b c k l y z _ _ rest (events_behind p).1 (events_behind q).1 bad worse)

same_count : {all : List (List ℕ)} {k l : List ℕ} {m n : ℕ} → StandsBehind all k m → StandsBehind all l n
    → IsBad k → IsBad l → m ≡ n
same_count {all} {k} {l} p q bad worse = grind (arith, one_place)

all_good : {all : List (List ℕ)} {line : List ℕ} {count : ℕ} {events : List Event} → AreEventsOf all events
    → StandsBehind all line count → ¬ IsBad line
all_good {all} {line} {count} {events} p q =
    not_bad q.before line q.after events (subst (λ ls. AreEventsOf ls events) q.whole p)

-- what reads as one thing reads as nothing else, memory aside
one_reading : (text : List ℕ) (r s : Result (List Event) ScriptFault) → IsReadAs text r → IsReadAs text s
    → IsSameButMemory r s
one_reading text (Ok a) (Ok b) p q = inl (ap (λ es. Ok es) (same_events p.1 q.1))
one_reading text (Ok a) (Err TooLong) p q = absurd (omega (arith, p.0, q))
one_reading text (Ok a) (Err (Line n)) p (short, (line, count, place, bad, same)) =
    absurd (all_good p.1 place bad)
one_reading text (Ok a) (Err Memory) p q = inr (inr refl)
one_reading text (Err TooLong) (Ok b) p q = absurd (omega (arith, p, q.0))
one_reading text (Err TooLong) (Err TooLong) p q = inl refl
one_reading text (Err TooLong) (Err (Line n)) p q = absurd (omega (arith, p, q.0))
one_reading text (Err TooLong) (Err Memory) p q = inr (inr refl)
one_reading text (Err (Line m)) (Ok b) (short, (line, count, place, bad, same)) q =
    absurd (all_good q.1 place bad)
one_reading text (Err (Line m)) (Err TooLong) p q = absurd (omega (arith, p.0, q))
one_reading text (Err (Line m)) (Err (Line n)) (short, (line, count, place, bad, same))
    (short', (line', count', place', bad', same')) =
    inl (ap (λ k. Err (Line k)) (same ∙ ap (λ k. k + 1) (same_count place place' bad bad') ∙ sym same'))
one_reading text (Err (Line m)) (Err Memory) p q = inr (inr refl)
one_reading text (Err Memory) s p q = inr (inl refl)

next_line : (c : In-Some) → IsNext c.args.text.now (length c.loop-line.yielded) c.in-Some.line.now
next_line c =
    let road = YieldsList-from_slice_split _ (λ byte. eqb byte 10) c.args.text.now (cc) (cc) (cc)
    (λ x b q k. search rules) in
    let turn = YieldsList-turn road c.loop-line.yielded _ c.loop-line.yielded_by _ _ c.in-Some.line
    c.in-Some.is c.next.ensures.steps in
    record { within = turn.0; here = turn.1 }

pub loop-line-init : goal.loop-line-init
loop-line-init c = rw c.new-events.ensures.items (nothing_read (omega arith))

pub loop-line-preserved-then-is_skipped : goal.loop-line-preserved-then-is_skipped
loop-line-preserved-then-is_skipped c =
    let n = next_line (goal.at.loop-line-preserved-then-is_skipped c).In-Some in
    rw length_push (more_skipped c.loop-line.invariant n (c.if-is_skipped.ensures.0 refl))

pub returns-in_default-clause-reads : goal.returns-in_default-clause-reads
returns-in_default-clause-reads c =
    let n = next_line (goal.at.returns-in_default-clause-reads c).In-Some in
    bad_line c.loop-line.invariant n (λ s. false≢true (c.if-is_skipped.ensures.1 s), c.in_default.ensures)

pub returns-in_default-clause-only : goal.returns-in_default-clause-only
returns-in_default-clause-only c r = one_reading _ _ r (returns-in_default-clause-reads c)

pub returns-then-is_err-clause-reads : goal.returns-then-is_err-clause-reads
returns-then-is_err-clause-reads c =
    let n = next_line (goal.at.returns-then-is_err-clause-reads c).In-Some in
    no_room c.loop-line.invariant n _ c.in-Some-event.ensures

pub loop-line-preserved : goal.loop-line-preserved
loop-line-preserved c =
    let n = next_line (goal.at.loop-line-preserved c).In-Some in
    let kept : is_ok c.push.result ≡ true = grind arith in
    rw (length_push, c.push.ensures.items, kept) (more_told c.loop-line.invariant n _ c.in-Some-event.ensures)

pub returns-clause-reads : goal.returns-clause-reads
returns-clause-reads c =
    let road = YieldsList-from_slice_split _ (λ byte. eqb byte 10) c.args.text.now (cc) (cc) (cc)
    (λ x b q k. search rules) in
    let end = YieldsList-end road c.loop-line.yielded _ c.loop-line.yielded_by _ _ c.in-None.is
    c.next.ensures.steps in
    all_read c.loop-line.invariant end.1

pub returns-clause-only : goal.returns-clause-only
returns-clause-only c r = one_reading _ _ r (returns-clause-reads c)
