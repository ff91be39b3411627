-- Packets are written as parts, one after the other, and as no more than they need.
use Rattle.std.proofs.Common.{◌≡◌, ◌<◌, ◌≤◌, ◌+◌, ◌^◌, ℕ, List, [], ◌∷◌, ◌++◌, length, refl, ap, sym, ◌∙◌, subst, arith, All, append-nil, ◌*◌, inl, inr, ◌/◌, ◌%◌, zero, suc, map, take, drop, append_assoc}
use Rattle.std.proofs.lemmas.{List.{length-append, length-drop, map-append, take-append-le, drop-append-le, Elements.{All-nil, All-cons, All-append}}, Bool.{cases_lt, lt-ltb, le-ltb}}
use Rattle.std.proofs.Math.Seq.{take-append_seam}
use Rattle.std.specs.{List.flat_map}
use Rattle.arrayvec.specs.ArrayVec.{ArrayVec}
use Rattle.dn_seal.specs.declared.opened.Opened.{Opened}
use Rattle.dn_link.specs.{Packing.{runs, runs_last, ArePacked, AreEnded, IsEnded, IsNeeded, MayFollow, IsPacking, IsOpen, part_of, packed, IsTight}, Text.{IsPart}}
use Rattle.dn_link.specs.{declared.{bundle.{Part.{Part, TheVariants.{Run, Whole, Relay}}, Carried.Carried}, packing.Packing.Packing}, Packets.{opened_from, packets_of, short_packet, short_packets}}
use Rattle.dn_link.specs.Packing.{IsOpenRun, part_room, parts_room}
use Rattle.dn_link.specs.Text.{IsCarried}
use Rattle.dn_link.specs.declared.bundle.Run as run

-- Packets are written as no more parts than they need.

-- with one more part behind the last
more_ended : (parts : List Part) (one other : Part) → AreEnded (parts ++ one ∷ []) → IsEnded one other
    → AreEnded ((parts ++ one ∷ []) ++ other ∷ [])
more_ended [] one other all is = (is, tt)
more_ended (a ∷ []) one other all is = (all.0, (is, tt))
more_ended (a ∷ b ∷ parts) one other all is = (all.0, more_ended (b ∷ parts) one other all.1 is)

-- without the last
front_ended : (parts : List Part) (one : Part) → AreEnded (parts ++ one ∷ []) → AreEnded parts
front_ended [] one all = tt
front_ended (a ∷ []) one all = tt
front_ended (a ∷ b ∷ parts) one all = (all.0, front_ended (b ∷ parts) one all.1)

before_whole : (one : Part) (packet : Carried) → IsEnded one (Whole packet)
before_whole (Whole other) packet = tt
before_whole (Run run) packet = tt
before_whole (Relay relay) packet = tt

whole_ended : (parts : List Part) (packet : Carried) → AreEnded parts → AreEnded (parts ++ Whole packet ∷ [])
whole_ended [] packet all = tt
whole_ended (a ∷ []) packet all = (before_whole a packet, tt)
whole_ended (a ∷ b ∷ parts) packet all = (all.0, whole_ended (b ∷ parts) packet all.1)

-- an open run is a part where it has commands
is_part : (r : run.Run) → 0 < length r.commands.items → part_of r ≡ Run r ∷ []
is_part r some = let on = lt-ltb 0 (length r.commands.items) some in rw on refl

is_none : (r : run.Run) → length r.commands.items ≤ 0 → part_of r ≡ []
is_none r none = let off = le-ltb 0 (length r.commands.items) none in rw off refl

-- a run of no commands
abbrev empty : ℕ → run.Run
empty start = record { start = start; commands = record { items = [] } }

-- what is written, with the open run as its last part
pub record IsClosed (from : ℕ) (parts : List Part) : Type 0 where
  pub needed : All (IsNeeded from) parts
  pub ended : AreEnded parts

closed : (from : ℕ) (p : Packing) → IsTight from p → IsClosed from (p.parts.items ++ part_of p.run)
closed from p tight = elim (cases_lt 0 (length p.run.commands.items)) [
  | inl some ↦ let at = tight p.run.start (λ more. refl) in
      subst (λ (last : List Part). IsClosed from (p.parts.items ++ last)) (sym (is_part p.run some)) (record {
        needed = All-append (IsNeeded from) p.parts.items (Run p.run ∷ []) at.needed
            (All-cons (IsNeeded from) (Run p.run) [] tt (All-nil (IsNeeded from)));
        ended = at.ended p.run refl;
      })
  | inr none ↦ let at = tight 0 (λ some. absurd (omega (arith, none, some))) in
      subst (λ (last : List Part). IsClosed from (p.parts.items ++ last)) (sym (is_none p.run none))
      (subst (IsClosed from) (sym (append-nil p.parts.items)) (record {
        needed = at.needed;
        ended = front_ended p.parts.items (Run (empty 0)) (at.ended (empty 0) refl);
      }))
]

-- the run is ended, since it is full, or the next one does not go on where it ends
pub ended_for : (from : ℕ) (p : Packing) (parts : List Part) (start first : ℕ) → IsPacking p → IsTight from p
    → parts ≡ p.parts.items ++ part_of p.run → first ≡ start
    → ((p.run.start + length p.run.commands.items / 8) % 2 ^ 32 ≡ start → length p.run.commands.items / 8 ≡ 24)
    → MayFollow from parts first
ended_for from p parts start first is tight now same full =
    record {
      needed = subst (All (IsNeeded from)) (sym now) (closed from p tight).needed;
      ended = λ next begins. subst (λ (ps : List Part). AreEnded (ps ++ Run next ∷ [])) (sym now)
          (go next (begins ∙ same));
    }
  where
    go : (next : run.Run) → next.start ≡ start → AreEnded ((p.parts.items ++ part_of p.run) ++ Run next ∷ [])
    go next begins = elim (cases_lt 0 (length p.run.commands.items)) [
      | inl some ↦
          let at = tight p.run.start (λ more. refl) in
          let whole = is.run.whole in
          subst (λ (last : List Part). AreEnded ((p.parts.items ++ last) ++ Run next ∷ [])) (sym (is_part p.run some))
          (more_ended p.parts.items (Run p.run) (Run next) (at.ended p.run refl)
          (λ goes. let count = full (goes ∙ begins) in omega (arith, count, whole)))
      | inr none ↦
          let at = tight next.start (λ some. absurd (omega (arith, none, some))) in
          subst (λ (last : List Part). AreEnded ((p.parts.items ++ last) ++ Run next ∷ [])) (sym (is_none p.run none))
          (subst (λ (ps : List Part). AreEnded (ps ++ Run next ∷ [])) (sym (append-nil p.parts.items))
          (at.ended next refl))
    ]

-- the run has one more command
pub run_tight : (from : ℕ) (p q : Packing) → MayFollow from p.parts.items p.run.start → q.parts ≡ p.parts
    → q.run.start ≡ p.run.start → 1 ≤ length q.run.commands.items → IsTight from q
run_tight from p q may parts begin some start at =
    subst (MayFollow from q.parts.items) (sym (at some ∙ begin))
    (subst (λ (ps : ArrayVec Part). MayFollow from ps.items p.run.start) (sym parts) may)

-- a packet stands whole, behind the run
pub whole_tight : (from : ℕ) (p q : Packing) (packet : Carried) → IsTight from p → IsNeeded from (Whole packet)
    → q.parts.items ≡ (p.parts.items ++ part_of p.run) ++ Whole packet ∷ [] → IsTight from q
whole_tight from p q packet tight needed now start at =
    let before = closed from p tight in
    let all : List Part = p.parts.items ++ part_of p.run in
    record {
      needed = subst (All (IsNeeded from)) (sym now) (All-append (IsNeeded from) all (Whole packet ∷ []) before.needed
          (All-cons (IsNeeded from) (Whole packet) [] needed (All-nil (IsNeeded from))));
      ended = λ next begins. subst (λ (ps : List Part). AreEnded (ps ++ Run next ∷ [])) (sym now)
          (more_ended all (Whole packet) (Run next) (whole_ended all packet before.ended) tt);
    }

-- Packets one after the other.

-- The last of the parts, and the bytes that are left behind it.

-- Parts that are written fit.

-- parts with one more
pub pushed_room : (parts : List Part) (part : Part) → parts_room (parts ++ part ∷ []) ≡ parts_room parts + part_room part
pushed_room [] part = omega arith
pushed_room (one ∷ parts) part = omega (arith, pushed_room parts part)

pushed_all : (parts : List Part) (part : Part) → All IsPart parts → IsPart part → All IsPart (parts ++ part ∷ [])
pushed_all parts part all is =
    All-append IsPart parts (part ∷ []) all (All-cons IsPart part [] is (All-nil IsPart))

-- the run is ended
pub ended : (p q : Packing) → IsPacking p → 1 ≤ length p.run.commands.items
    → q.parts.items ≡ p.parts.items ++ Run p.run ∷ []
    → q.bytes ≡ p.bytes + (5 + length p.run.commands.items) → q.run.start < 2 ^ 32 → q.run.commands.items ≡ []
    → IsPacking q
ended p q is some parts bytes start none =
    let count = ap (length {A = Part}) parts in
    let more = length-append p.parts.items (Run p.run ∷ []) in
    let empty = ap (length {A = ℕ}) none in
    let whole = is.run.whole in
    let written = ap parts_room parts in
    record {
      parts = subst (All IsPart) (sym parts) (pushed_all p.parts.items (Run p.run) is.parts (record {
        start = is.run.start;
        some = omega (arith, whole, some);
        few = is.run.few;
        whole = is.run.whole;
      }));
      run = record { start = start; few = omega (arith, empty); whole = omega (arith, empty) };
      bytes = omega (arith, bytes, is.bytes, written, pushed_room p.parts.items (Run p.run));
      few = omega (arith, count, more, is.run_is_one some);
      run_is_one = λ more. absurd (omega (arith, more, empty));
      fit = omega (arith, bytes, is.run_fits some);
      run_fits = λ more. absurd (omega (arith, more, empty));
    }

-- a packet stands whole
pub whole_fits : (p q : Packing) (packet : Carried) → IsPacking p → length p.parts.items ≤ 23
    → p.bytes + 115 ≤ 1118 → p.run.commands.items ≡ [] → IsCarried packet
    → q.parts.items ≡ p.parts.items ++ Whole packet ∷ []
    → q.bytes ≡ p.bytes + (11 + length packet.datagram.items) → q.run ≡ p.run → IsPacking q
whole_fits p q packet is few room none fits parts bytes same =
    let count = ap (length {A = Part}) parts in
    let more = length-append p.parts.items (Whole packet ∷ []) in
    let short = fits.short in
    let empty : length q.run.commands.items ≡ 0 =
    ap (λ (r : run.Run). length r.commands.items) same ∙ ap (length {A = ℕ}) none in
    record {
      parts = subst (All IsPart) (sym parts) (pushed_all p.parts.items (Whole packet) is.parts fits);
      run = subst IsOpenRun (sym same) is.run;
      bytes = omega (arith, bytes, is.bytes, ap parts_room parts, pushed_room p.parts.items (Whole packet));
      few = omega (arith, count, more, few);
      run_is_one = λ some. absurd (omega (arith, some, empty));
      fit = omega (arith, bytes, room, short);
      run_fits = λ some. absurd (omega (arith, some, empty));
    }

pub last_of : (parts : List Part) (part : Part) → runs_last (parts ++ part ∷ []) ≡ runs part
last_of [] part = refl
last_of (a ∷ []) part = refl
last_of (a ∷ b ∷ parts) part = last_of (b ∷ parts) part

-- of fewer than twenty-four parts with the run there are no bytes left for another packet
abbrev pub IsFull : Packing → Type 0
IsFull p = length p.parts.items < 24 → (1 ≤ length p.run.commands.items → length p.parts.items < 23)
    → 1118 < p.bytes + 5 + length p.run.commands.items + 115

-- where a run may have been ended, and there was no room for another packet
ended_full : (p : Packing) (parts : List Part) → IsPacking p → IsOpen p
    → parts ≡ p.parts.items ++ part_of p.run
    → IsFull p → length parts < 24 → 1118 + 5 * runs_last parts < parts_room parts + (5 + 115)
ended_full p parts is going now full few = elim (cases_lt 0 (length p.run.commands.items)) [
  | inl some ↦
      let same : parts ≡ p.parts.items ++ Run p.run ∷ [] =
      now ∙ ap (λ (last : List Part). p.parts.items ++ last) (is_part p.run some) in
      let last : runs_last parts ≡ 1 = ap runs_last same ∙ last_of p.parts.items (Run p.run) in
      let count = ap (length {A = Part}) same ∙ length-append p.parts.items (Run p.run ∷ []) in
      let written = ap parts_room same ∙ pushed_room p.parts.items (Run p.run) in
      omega (arith, full (omega (arith, few, count)) (λ one. omega (arith, few, count)), last, written, is.bytes)
  | inr none ↦
      let same : parts ≡ p.parts.items =
      now ∙ ap (λ (last : List Part). p.parts.items ++ last) (is_none p.run none) ∙ append-nil p.parts.items in
      let last : runs_last parts ≡ 0 = ap runs_last same ∙ going (omega (arith, none)) in
      let count = ap (length {A = Part}) same in
      let written = ap parts_room same in
      let full_now = full (omega (arith, few, count)) (λ one. absurd (omega (arith, one, none))) in
      omega (arith, full_now, last, written, none, is.bytes)
]

-- the tic after so many
later_tic : (start n : ℕ) → ((start + 1) % 2 ^ 32 + n) % 2 ^ 32 ≡ (start + suc n) % 2 ^ 32
later_tic start n = omega arith

take_all : (xs : List ℕ) → length xs ≡ 8 → take 8 xs ≡ xs
take_all xs eight =
    ap (λ (k : ℕ). take k xs) (sym eight) ∙ ap (take (length xs)) (sym (append-nil xs)) ∙ take-append_seam xs []

-- a run with one more command
longer : (n from start : ℕ) (commands command : List ℕ) → start < 2 ^ 32 → length commands ≡ 8 * n
    → length command ≡ 8 → short_packets (suc n) from start (commands ++ command)
    ≡ short_packets n from start commands ++ opened_from from (short_packet from ((start + n) % 2 ^ 32) command) ∷ []
longer zero from start [] command small none eight =
    let same : (start + 0) % 2 ^ 32 ≡ start = omega (arith, small) in
    λ i. opened_from from (short_packet from (sym same i) (take_all command eight i)) ∷ []
longer zero from start (c ∷ commands) command small none eight = absurd (omega (arith, none))
longer (suc n) from start commands command small long eight =
    let first = take-append-le 8 commands command (omega (arith, long)) in
    let rest = drop-append-le 8 commands command (omega (arith, long)) in
    let next = (start + 1) % 2 ^ 32 in
    let left = length-drop 8 commands in
    let more = longer n from next (drop 8 commands) command (omega arith) (omega (arith, left, long)) eight in
    let tic = later_tic start n in
    (λ i. opened_from from (short_packet from start (first i)) ∷ short_packets (suc n) from next (rest i))
    ∙ ap (λ (ps : List Opened). opened_from from (short_packet from start (take 8 commands)) ∷ ps) more
    ∙ (λ i. opened_from from (short_packet from start (take 8 commands))
    ∷ (short_packets n from next (drop 8 commands) ++ opened_from from (short_packet from (tic i) command) ∷ []))

-- the run goes on with a command
pub run_goes_on : (p q : Packing) (from start : ℕ) (command : List ℕ) → IsPacking p → length command ≡ 8
    → length p.run.commands.items ≤ 184 → (p.run.start + length p.run.commands.items / 8) % 2 ^ 32 ≡ start
    → q.parts ≡ p.parts → q.run.start ≡ p.run.start → q.run.commands.items ≡ p.run.commands.items ++ command
    → packed from q ≡ packed from p ++ opened_from from (short_packet from start command) ∷ []
run_goes_on p q from start command is eight few follows parts begin more =
    let n : ℕ = length p.run.commands.items / 8 in
    let whole = is.run.whole in
    let grown = ap (length {A = ℕ}) more in
    let both = length-append p.run.commands.items command in
    let count : length q.run.commands.items / 8 ≡ suc n = omega (arith, grown, both, eight, whole) in
    let one = longer n from p.run.start p.run.commands.items command is.run.start (omega (arith, whole)) eight in
    (λ i. flat_map (packets_of from) (parts i).items ++ short_packets (count i) from (begin i) (more i)) ∙ ap
    (λ (ps : List Opened). flat_map (packets_of from) p.parts.items ++ ps) one
    ∙ (λ i. flat_map (packets_of from) p.parts.items ++ (short_packets n from p.run.start p.run.commands.items
    ++ opened_from from (short_packet from (follows i) command) ∷ [])) ∙ sym
    (append_assoc (flat_map (packets_of from) p.parts.items) (short_packets n from p.run.start
    p.run.commands.items) (opened_from from (short_packet from start command) ∷ []))

-- where the loop over packets is
pub record InPacking (from : ℕ) (packets : List Carried) (p : Packing) (rest : List Carried) : Type 0 where
  pub fits : IsPacking p
  pub done : List Carried
  pub split : packets ≡ done ++ rest
  pub told : packed from p ≡ map (opened_from from) done
  pub tight : IsTight from p
  pub last : IsOpen p

module _ (from : ℕ) (packets : List Carried) (p : Packing) (rest : List Carried)
    (at : InPacking from packets p rest) where
  pub packs_on : (q : Packing) (packet : Carried) (after : List Carried) → rest ≡ packet ∷ after
      → IsPacking q → packed from q ≡ packed from p ++ opened_from from packet ∷ [] → IsTight from q
      → IsOpen q → InPacking from packets q after
  packs_on q packet after next fits more tight last =
      record {
        fits = fits;
        done = at.done ++ packet ∷ [];
        split = at.split ∙ ap (λ (ps : List Carried). at.done ++ ps) next
            ∙ sym (append_assoc at.done (packet ∷ []) after);
        told = more ∙ ap (λ (ps : List Opened). ps ++ opened_from from packet ∷ []) at.told
            ∙ sym (map-append (opened_from from) at.done (packet ∷ []));
        tight = tight;
        last = last;
      }

  -- the run is ended, and no packet is left, or there is no room
  pub packs_all : (q : Packing) → q.run.commands.items ≡ [] → packed from q ≡ packed from p
      → q.parts.items ≡ p.parts.items ++ part_of p.run → (1 ≤ length rest → IsFull p)
      → ArePacked from packets q.parts.items
  packs_all q none same now full =
      let count = ap (length {A = Carried}) at.split in
      let both = length-append at.done rest in
      let empty : packets_of from (Run q.run) ≡ [] =
      ap (λ (cs : List ℕ). short_packets (length cs / 8) from q.run.start cs) none in
      let parts = sym (append-nil (flat_map (packets_of from) q.parts.items))
      ∙ ap (λ (ps : List Opened). flat_map (packets_of from) q.parts.items ++ ps) (sym empty) in
      let end = subst (IsClosed from) (sym now) (closed from p at.tight) in
      record {
        count = length at.done;
        some = omega (arith, count, both);
        front = parts ∙ same ∙ at.told ∙ sym (take-map at.done)
            ∙ ap (λ (ps : List Carried). take (length at.done) (map (opened_from from) ps)) (sym at.split);
        all = λ more few.
            ended_full p q.parts.items at.fits at.last now (full (omega (arith, count, both, more))) few;
        needed = end.needed;
        ended = end.ended;
      }
    where
      take-map : (done : List Carried)
          → take (length done) (map (opened_from from) (done ++ rest)) ≡ map (opened_from from) done
      take-map [] = refl
      take-map (packet ∷ done) = ap (λ (ps : List Opened). opened_from from packet ∷ ps) (take-map done)
