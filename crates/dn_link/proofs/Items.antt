-- Parts are read back, and what is read is what stands there.
use Rattle.std.proofs.Common.{◌≡◌, ◌<◌, ◌≤◌, ◌+◌, ◌^◌, ℕ, List, ◌∷◌, ◌++◌, length, take, drop, refl, ap, sym, ◌∙◌, subst, arith, Option, Some, None, ◌/◌, ◌%◌, zero, suc, [], append_assoc, All, inl, inr}
use Rattle.std.proofs.lemmas.{Bool.{lt-ltb, le-ltb, cases_eq, cases_lt, eq-eqb, ne_eqb}, List.{length-take-le, length-append, length-drop, Elements.{All-nil, All-cons, All-head, All-tail}}, Nat.from_le_bytes-to_le_bytes_4, Option.{same_Some, none-some}}
use Rattle.std.proofs.Math.Seq.{take-append_seam, drop-append_seam}
use Rattle.std.specs.{Prelude.slice_index, Option.option_map, List.flat_map}
use Rattle.dn_seal.specs.{Opening.ask_in}
use Rattle.dn_seal.proofs.Openings.{asked-small}
use Rattle.dn_link.specs.{Text.{carried_bytes, IsCarried, part_bytes, IsPart, IsRelay, IsRun}, Told.{number_at, told_whole, told_run, told_relay, told_part, told_all}}
use Rattle.dn_link.specs.declared.bundle.{Carried.Carried, Part.{Part, TheVariants.{Whole, Run, Relay}}}
use Rattle.dn_link.proofs.Runs.{heads, run_first, run_is}
use Rattle.dn_link.specs.Text.{run_head}
use Rattle.dn_link.specs.Told.{told_as, told_by}
use Rattle.std.proofs.Common.{Bool, false, if◌then◌else◌, nat_eq, true}
use Rattle.std.proofs.lemmas.Bool.Decides.{Decides-eqb}
use Rattle.std.proofs.lemmas.Slice.Eq.{starts_is}
use Rattle.std.specs.List.{starts_with}
use Rattle.std.specs.Option.{option_and_then}
use Rattle.dn_link.proofs.Parts.{Fit, small, fit_drop}
use Rattle.dn_link.specs.declared.bundle.Run as run
use Rattle.dn_link.specs.declared.bundle.Relay as relay

-- Packets are read back, and what is read is what stands there.

abbrev pub size : Carried → ℕ
size packet = length packet.datagram.items

-- the packet stands at the front of the bytes
pub record IsFirst (bytes : List ℕ) (packet : Carried) : Type 0 where
  pub short : size packet ≤ 104
  pub long : 10 + size packet ≤ length bytes
  pub told_size : slice_index bytes 9 ≡ size packet
  pub start : number_at 0 bytes ≡ packet.start
  pub ask : ask_in (slice_index bytes 4) (number_at 5 bytes) ≡ Some packet.ask
  pub items : take (size packet) (drop 10 bytes) ≡ packet.datagram.items

pub told_first : (bytes : List ℕ) (packet : Carried) → IsFirst bytes packet → told_whole bytes ≡ Some packet
told_first bytes packet is = grind (arith, le-ltb)

pub first_told : (bytes : List ℕ) (packet : Carried) → told_whole bytes ≡ Some packet → IsFirst bytes packet
first_told bytes packet e = grind (arith, lt-ltb, none-some, le-ltb, same_Some, length-drop, length-take-le)

pub length-carried : (packet : Carried) → length (carried_bytes packet) ≡ 10 + size packet
length-carried packet = grind arith

-- a packet that was written stands there
pub written_first : (packet : Carried) (rest : List ℕ) → IsCarried packet
    → IsFirst (carried_bytes packet ++ rest) packet
written_first packet rest is = grind (arith, length-append, length-carried, from_le_bytes-to_le_bytes_4, small, take-append_seam)

pub first_fits : (bytes : List ℕ) (packet : Carried) → Fit bytes → IsFirst bytes packet → IsCarried packet
first_fits (s0 ∷ s1 ∷ s2 ∷ s3 ∷ q ∷ a ∷ b ∷ c ∷ d ∷ n ∷ rest) packet fits is =
    record {
      start = subst (λ (n : ℕ). n < 2 ^ 32) is.start (small s0 s1 s2 s3 (fits 0) (fits 1) (fits 2) (fits 3));
      ask = asked-small q _ packet.ask (small a b c d (fits 5) (fits 6) (fits 7) (fits 8)) is.ask;
      short = is.short;
    }
first_fits _ packet fits is = absurd (let l = is.long in omega arith)

run_as : (r : run.Run) (rest : List ℕ) → IsRun r → told_as (part_bytes (Run r) ++ rest) ≡ Some (Run r)
run_as r rest is =
    let head = heads 0 r.commands.items (omega arith) is.some is.few in
    let off = ne_eqb (run_head 0 r.commands.items) 0 head.some in
    let own = eq-eqb (run_head 0 r.commands.items / 32 % 2) 0 head.third in
    rw (off, own) (ap (option_map Run) (run_first 0 r rest (omega arith) is))

relay_as : (r : relay.Relay) (rest : List ℕ) → IsRelay r → told_as (part_bytes (Relay r) ++ rest) ≡ Some (Relay r)
relay_as r rest is =
    let head = heads 1 r.run.commands.items (omega arith) is.run.some is.run.few in
    let off = ne_eqb (run_head 32 r.run.commands.items) 0 head.some in
    let third = ne_eqb (run_head 32 r.run.commands.items / 32 % 2) 0 (λ own. absurd (omega (arith, own, head.third))) in
    let low = le-ltb 3 r.player (omega (arith, is.player)) in
    rw (off, third, low) (ap (λ (o : Option run.Run). option_map Relay (option_map (λ x. record { player = r.player; run = x }) o))
    (run_first 1 r.run rest (omega arith) is.run))

part_as : (part : Part) (rest : List ℕ) → IsPart part → told_as (part_bytes part ++ rest) ≡ Some part
part_as (Whole packet) rest is =
    ap (option_map Whole) (told_first (carried_bytes packet ++ rest) packet (written_first packet rest is))
part_as (Run r) rest is = run_as r rest is
part_as (Relay r) rest is = relay_as r rest is

-- a part is told by its own bytes
told_its : (part : Part) (rest : List ℕ) → told_by (part_bytes part ++ rest) part ≡ Some part
told_its part rest =
    let bytes : List ℕ = part_bytes part ++ rest in
    let on : starts_with nat_eq bytes (part_bytes part) ≡ true =
    (starts_is Decides-eqb bytes (part_bytes part) (starts_with nat_eq bytes (part_bytes part)) refl).1 rest refl in
    ap (λ (b : Bool). if b then Some part else None) on

pub part_back : (part : Part) (rest : List ℕ) → IsPart part → told_part (part_bytes part ++ rest) ≡ Some part
part_back part rest is =
    ap (option_and_then (told_by (part_bytes part ++ rest))) (part_as part rest is) ∙ told_its part rest

-- what is read as a part is that part's bytes
pub record IsPlaced (bytes : List ℕ) (part : Part) : Type 0 where
  pub is : IsPart part
  pub spelled : bytes ≡ part_bytes part ++ drop (length (part_bytes part)) bytes

as_whole : (rest : List ℕ) (part : Part) → Fit rest → option_map Whole (told_whole rest) ≡ Some part → IsPart part
as_whole rest part fits e = go (told_whole rest) refl e
  where
    go : (one : Option Carried) → told_whole rest ≡ one → option_map Whole one ≡ Some part → IsPart part
    go None is e = absurd (none-some part e)
    go (Some packet) is e =
        subst IsPart (same_Some (Whole packet) part e) (first_fits rest packet fits (first_told rest packet is))

as_run : (head : ℕ) (rest behind : List ℕ) (part : Part) → Fit rest → option_map Run (told_run head rest) ≡ Some part
    → head ∷ rest ≡ part_bytes part ++ behind → IsPart part
as_run head rest behind part fits e spelled = go (told_run head rest) refl e
  where
    go : (one : Option run.Run) → told_run head rest ≡ one → option_map Run one ≡ Some part → IsPart part
    go None is e = absurd (none-some part e)
    go (Some r) is e =
        let same = same_Some (Run r) part e in
        let first = ap (λ (xs : List ℕ). slice_index xs 0)
        (subst (λ (p : Part). head ∷ rest ≡ part_bytes p ++ behind) (sym same) spelled) in
        subst IsPart same (run_is 0 head rest r (omega arith) fits is first)

as_relay : (head : ℕ) (rest behind : List ℕ) (part : Part) → Fit rest
    → option_map Relay (told_relay head rest) ≡ Some part → head ∷ rest ≡ part_bytes part ++ behind → IsPart part
as_relay head [] behind part fits e spelled = absurd (none-some part e)
as_relay head (player ∷ rest) behind part fits e spelled = elim (cases_lt 3 player) [
  | inl many ↦ let on = lt-ltb 3 player many in
      let no : ◌≡◌ {A = Option Part} None (Some part) = rw on at e in absurd (none-some part no)
  | inr low ↦ let off = le-ltb 3 player low in go low (told_run head rest) refl (rw off at e)
]
  where
    go : player ≤ 3 → (one : Option run.Run) → told_run head rest ≡ one
        → option_map Relay (option_map (λ x. record { player = player; run = x }) one) ≡ Some part → IsPart part
    go low None is e = absurd (none-some part e)
    go low (Some r) is e =
        let same = same_Some (Relay (record { player = player; run = r })) part e in
        let first = ap (λ (xs : List ℕ). slice_index xs 0)
        (subst (λ (p : Part). head ∷ player ∷ rest ≡ part_bytes p ++ behind) (sym same) spelled) in
        subst IsPart same (record {
          player = omega (arith, low);
          run = run_is 1 head rest r (omega arith) (fit_drop 1 (player ∷ rest) fits) is first;
        })

as_is : (bytes behind : List ℕ) (part : Part) → Fit bytes → told_as bytes ≡ Some part
    → bytes ≡ part_bytes part ++ behind → IsPart part
as_is [] behind part fits e spelled = absurd (none-some part e)
as_is (head ∷ rest) behind part fits e spelled = elim (cases_eq head 0) [
  | inl none ↦ let on = eq-eqb head 0 none in as_whole rest part (fit_drop 1 (head ∷ rest) fits) (rw on at e)
  | inr some ↦ let off = ne_eqb head 0 some in elim (cases_eq (head / 32 % 2) 0) [
    | inl own ↦ let on = eq-eqb (head / 32 % 2) 0 own in
        as_run head rest behind part (fit_drop 1 (head ∷ rest) fits) (rw (off, on) at e) spelled
    | inr third ↦ let no = ne_eqb (head / 32 % 2) 0 third in
        as_relay head rest behind part (fit_drop 1 (head ∷ rest) fits) (rw (off, no) at e) spelled
  ]
]

pub part_is : (bytes : List ℕ) (part : Part) → Fit bytes → told_part bytes ≡ Some part → IsPlaced bytes part
part_is bytes part fits e = go (told_as bytes) refl e
  where
    begun : (p : Part) → told_as bytes ≡ Some p → (b : Bool) → starts_with nat_eq bytes (part_bytes p) ≡ b
        → (if b then Some p else None) ≡ Some part → IsPlaced bytes part
    begun p is false off e = absurd (none-some part e)
    begun p is true on e =
        let spelled = (starts_is Decides-eqb bytes (part_bytes p) (starts_with nat_eq bytes (part_bytes p)) refl).0 on in
        subst (IsPlaced bytes) (same_Some p part e) (record {
          is = as_is bytes (drop (length (part_bytes p)) bytes) p fits is spelled;
          spelled = spelled;
        })

    go : (one : Option Part) → told_as bytes ≡ one → option_and_then (told_by bytes) one ≡ Some part
        → IsPlaced bytes part
    go None is e = absurd (none-some part e)
    go (Some p) is e = begun p is (starts_with nat_eq bytes (part_bytes p)) refl e

-- what follows a part, or none
abbrev pub opened : ℕ → List ℕ → Option Part → Option (List Part)
opened n bytes one =
    elim one [
      | None ↦ None
      | Some part ↦ option_map (λ parts. part ∷ parts) (told_all n (drop (length (part_bytes part)) bytes))
    ]

-- all parts are read back
pub all_back : (parts : List Part) → All IsPart parts
    → told_all (length parts) (flat_map part_bytes parts) ≡ Some parts
all_back [] all = refl
all_back (part ∷ parts) all =
    let rest : List ℕ = flat_map part_bytes parts in
    let one = part_back part rest (All-head IsPart part parts all) in
    let seam = drop-append_seam (part_bytes part) rest in
    let others = all_back parts (All-tail IsPart part parts all) in
    ap (opened (length parts) (part_bytes part ++ rest)) one
    ∙ ap (λ (xs : List ℕ). option_map (λ (more : List Part). part ∷ more) (told_all (length parts) xs)) seam
    ∙ ap (option_map (λ (more : List Part). part ∷ more)) others

-- and what is read is their bytes
pub record Alls (n : ℕ) (bytes : List ℕ) (parts : List Part) : Type 0 where
  pub count : length parts ≡ n
  pub fit : All IsPart parts
  pub spelled : bytes ≡ flat_map part_bytes parts

abbrev Recur : ℕ → Type 0
Recur n = (rest : List ℕ) (more : List Part) → Fit rest → told_all n rest ≡ Some more → Alls n rest more

pub all_is : (n : ℕ) (bytes : List ℕ) (parts : List Part) → Fit bytes → told_all n bytes ≡ Some parts
    → Alls n bytes parts
all_is zero [] parts fits e =
    subst (Alls 0 []) (same_Some [] parts e) (record { count = refl; fit = All-nil IsPart; spelled = refl })
all_is zero (x ∷ bytes) parts fits e = absurd (none-some parts e)
all_is (suc n) bytes parts fits e =
    first (λ rest more fit told. all_is n rest more fit told) (told_part bytes) refl e
  where
    next : Recur n → (part : Part) → IsPlaced bytes part → (others : Option (List Part))
        → told_all n (drop (length (part_bytes part)) bytes) ≡ others
        → option_map (λ (more : List Part). part ∷ more) others ≡ Some parts → Alls (suc n) bytes parts
    next recur part is None they e = absurd (none-some parts e)
    next recur part is (Some more) they e =
        let rest = recur (drop (length (part_bytes part)) bytes) more
        (fit_drop (length (part_bytes part)) bytes fits) they in
        subst (Alls (suc n) bytes) (same_Some (part ∷ more) parts e) (record {
          count = omega (arith, rest.count);
          fit = All-cons IsPart part more is.is rest.fit;
          spelled = is.spelled ∙ ap (λ (xs : List ℕ). part_bytes part ++ xs) rest.spelled;
        })

    first : Recur n → (one : Option Part) → told_part bytes ≡ one
        → (elim one [
          | None ↦ None
          | Some part ↦ option_map (λ parts. part ∷ parts) (told_all n (drop (length (part_bytes part)) bytes))
        ]) ≡ Some parts → Alls (suc n) bytes parts
    first recur None is e = absurd (none-some parts e)
    first recur (Some part) is e =
        next recur part (part_is bytes part fits is) (told_all n (drop (length (part_bytes part)) bytes)) refl e

-- parts are written one after the other: there is room for the next, and with it the whole is still to come
module _ (bytes whole : List ℕ) (rest : List Part) (part : Part) (after : List Part) (split : rest ≡ part ∷ after)
    (so : bytes ++ flat_map part_bytes rest ≡ whole) where
  pub part_fits : length whole ≤ 1200 → length bytes + length (part_bytes part) ≤ 1200
  part_fits room = grind (arith, length-append)

  pub one_more : (new : List ℕ) → new ≡ bytes ++ part_bytes part → new ++ flat_map part_bytes after ≡ whole
  one_more new e = grind (arith, append_assoc)
