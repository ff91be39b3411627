-- Every packet says something as a set-up packet.
use Rattle.std.proofs.{Common.{◌≡◌, ◌<◌, ◌≤◌, ◌%◌, ◌/◌, ◌==◌, ℕ, zero, suc, Bool, true, false, refl, arith, inl, inr, Ok, Err}, lemmas.Bool.{cases_lt, cases_eq}}
use Rattle.std.specs.Prelude.{bit_and}
use Rattle.dn_packet.specs.declared.packet.Packet.{Packet}
use Rattle.dn_setup.specs.{declared.setup.SetupFault.TheVariants.{NotSetup, Version, Range}, Settings.{Settings, choice, bit}, Setup.{HasSetup, Carries, Told, version}}

-- a bit is 0 or 1, and a number below 2 is a bit
bit_small : (b : Bool) → bit b ≤ 1
bit_small true = omega arith
bit_small false = omega arith

bit_back : (n : ℕ) → n < 2 → bit (n == 1) ≡ n
bit_back zero h = refl
bit_back (suc zero) h = refl
bit_back (suc (suc n)) h = absurd (omega arith)

-- the choice whose bytes these are, if there is one
abbrev chosen : ℕ → ℕ → Settings
chosen ask start =
    choice (ask % 16) (ask / 64) (ask / 32 % 2 == 1) (ask / 16 % 2 == 1) (start / 64) (start % 64)

-- what the settings are that a packet tells
record Ranges (p : Packet) : Type 0 where
  skill : p.ask % 16 ≤ 4
  deathmatch : p.ask / 64 ≤ 2
  episode : (1 ≤ p.start / 64) × (p.start / 64 ≤ 3)
  map : (1 ≤ p.start % 64) × (p.start % 64 ≤ 32)

in_ranges : (p : Packet) (s : Settings) → Carries p s → Ranges p
in_ranges p s tells =
    let r = bit_small s.respawn in
    let m = bit_small s.no_monsters in
    let skill = tells.in_range.skill in
    let ask = tells.ask in
    let episode = tells.in_range.episode in
    let map = tells.in_range.map in
    record {
      skill = omega (arith, r, m, skill, ask);
      deathmatch = omega (arith, r, m, skill, ask, tells.in_range.deathmatch);
      episode = (omega (arith, tells.start, map.1, episode.0), omega (arith, tells.start, map.1, episode.1));
      map = (omega (arith, tells.start, map.0, map.1), omega (arith, tells.start, map.0, map.1));
    }

told : (p : Packet) → HasSetup p → p.player ≡ version → Ranges p → Told p
told p set here ranges =
    let respawn = bit_back (p.ask / 16 % 2) (omega arith) in
    let monsters = bit_back (p.ask / 32 % 2) (omega arith) in
    record {
      told = Ok (chosen p.ask p.start);
      is_told = (
        set,
        here,
        record {
          in_range = record {
            skill = ranges.skill;
            deathmatch = ranges.deathmatch;
            episode = ranges.episode;
            map = ranges.map;
          };
          ask = omega (arith, respawn, monsters);
          start = omega arith;
        },
      );
    }

out_of_range : (p : Packet) → HasSetup p → p.player ≡ version → ¬ Ranges p → Told p
out_of_range p set here none =
    record { told = Err Range; is_told = (set, here, λ s tells. none (in_ranges p s tells)) }

of_version : (p : Packet) → HasSetup p → p.player ≡ version → Told p
of_version p set here = elim (cases_lt 4 (p.ask % 16)) [
  | inl high ↦ out_of_range p set here (λ r. omega (arith, high, r.skill))
  | inr skill ↦ elim (cases_lt 2 (p.ask / 64)) [
    | inl high ↦ out_of_range p set here (λ r. omega (arith, high, r.deathmatch))
    | inr deathmatch ↦ elim (cases_lt (p.start / 64) 1) [
      | inl low ↦ out_of_range p set here (λ r. omega (arith, low, r.episode.0))
      | inr first ↦ elim (cases_lt 3 (p.start / 64)) [
        | inl high ↦ out_of_range p set here (λ r. omega (arith, high, r.episode.1))
        | inr episode ↦ elim (cases_lt (p.start % 64) 1) [
          | inl low ↦ out_of_range p set here (λ r. omega (arith, low, r.map.0))
          | inr least ↦ elim (cases_lt 32 (p.start % 64)) [
            | inl high ↦ out_of_range p set here (λ r. omega (arith, high, r.map.1))
            | inr map ↦
                told p set here
                (record {
                  skill = skill;
                  deathmatch = deathmatch;
                  episode = (first, episode);
                  map = (least, map);
                })
          ]
        ]
      ]
    ]
  ]
]

pub is_told : (p : Packet) → Told p
is_told p = elim (cases_eq (bit_and p.flags 2) 0) [
  | inl unset ↦ record { told = Err NotSetup; is_told = λ set. set unset }
  | inr set ↦ elim (cases_eq p.player version) [
    | inl here ↦ of_version p set here
    | inr other ↦ record { told = Err Version; is_told = (set, other) }
  ]
]
