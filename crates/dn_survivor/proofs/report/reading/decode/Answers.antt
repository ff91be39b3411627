-- What the parts of bytes are read as, they are read as together.
use Rattle.std.proofs.Common.{◌≡◌, ◌≢◌, ◌<◌, ◌≤◌, ◌/◌, ◌%◌, ℕ, List, length, drop, get_or, sym, arith, Ok, Err, ◌∙◌}
use Rattle.std.proofs.{Common.{subst, Bool, ◌==◌, flat_map, eq-eqb, ne_eqb}, lemmas.List.take_rest}
use Rattle.dn_survivor.specs.declared.report.{ReportFault.{ReportFault, TheVariants.Bits}, Tail.Tail}
use Rattle.dn_survivor.specs.ReportBytes.{bit, number_of, tail_bytes, AreTold, free_bits, HasFault, IsReadAs}
use Rattle.dn_survivor.proofs.ReportBytes.{one_reading}
use Rattle.dn_survivor.proofs.report.reading.decode.Goals as goal

fault_read : (bytes : List ℕ) (f : ReportFault) → 1 ≤ length bytes → free_bits bytes ≡ 0
    → HasFault (drop 1 bytes) f → IsReadAs bytes (Err f)
fault_read bytes f some none has = grind (arith, ne_eqb, eq-eqb)

bits_read : (bytes : List ℕ) → 1 ≤ length bytes → free_bits bytes ≢ 0 → IsReadAs bytes (Err Bits)
bits_read bytes some free = grind (arith, ne_eqb)

-- the highest bit of a byte
highest : (x : ℕ) → x < 256 → bit (x / 128 == 1) ≡ x / 128
highest x small = grind (arith, eq-eqb, ne_eqb)

report_read : (bytes : List ℕ) (gone : List Bool) (told : List Tail) → get_or bytes 0 0 < 256
    → 1 ≤ length bytes → free_bits bytes ≡ 0 → length gone ≡ 4 → number_of gone ≡ get_or bytes 0 0 % 16
    → AreTold told → drop 1 bytes ≡ flat_map tail_bytes told
    → IsReadAs bytes (Ok (record { gone = gone; left = get_or bytes 0 0 / 128 == 1; told = record { items = told } }))
report_read bytes gone told small some free four is are spelled = grind (arith, highest)

pub returns-then-first-ne0-clause-only : goal.returns-then-first-ne0-clause-only
returns-then-first-ne0-clause-only c =
    let some : 1 ≤ length c.args.bytes.now = grind arith in
    λ read. one_reading c.args.bytes.now _ read (bits_read c.args.bytes.now some c.if-first-ne0.true)

reads : goal.returns-in-Ok-clause-reads
reads c =
    let bytes = c.args.bytes.now in
    let some : 1 ≤ length bytes = grind arith in
    report_read bytes c.bits_of.result c.in-Ok.told.items (omega (arith, c.type_inv.bytes 0)) some c.if-first-ne0.false
    c.bits_of.ensures.four c.bits_of.ensures.is c.in-Ok.ensures.told.0
    (sym (take_rest bytes 1) ∙ c.in-Ok.ensures.told.1)

pub returns-in-Ok-clause-reads : goal.returns-in-Ok-clause-reads
returns-in-Ok-clause-reads c = reads c

pub returns-in-Ok-clause-only : goal.returns-in-Ok-clause-only
returns-in-Ok-clause-only c = λ read. one_reading c.args.bytes.now _ read (reads c)

fails : goal.returns-in-Err-clause-reads
fails c =
    let bytes = c.args.bytes.now in
    let some : 1 ≤ length bytes = grind arith in
    fault_read bytes c.in-Err.fault some c.if-first-ne0.false
    (subst (λ (bs : List ℕ). HasFault bs c.in-Err.fault) (take_rest bytes 1) c.in-Err.ensures.fault)

pub returns-in-Err-clause-reads : goal.returns-in-Err-clause-reads
returns-in-Err-clause-reads c = fails c

pub returns-in-Err-clause-only : goal.returns-in-Err-clause-only
returns-in-Err-clause-only c = λ read. one_reading c.args.bytes.now _ read (fails c)
