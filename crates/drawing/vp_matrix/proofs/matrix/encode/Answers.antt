use Rattle.std.proofs.Common.{ap}
use Rattle.vp_matrix.specs.Encoding.{aztec_fault, pdf417_fault, fault_of, matrix_refusal}
use Rattle.vp_matrix.proofs.Encodings.{is_data_matrix, is_aztec, is_pdf417}
use Rattle.vp_matrix.proofs.matrix.encode.Goals as goal

pub returns-in-Ok-clause-accepted : goal.returns-in-Ok-clause-accepted
unfolding matrix_refusal
returns-in-Ok-clause-accepted c = rw c.in-DataMatrix.is c.in-Ok.ensures.accepted

pub returns-in-Ok-clause-symbol : goal.returns-in-Ok-clause-symbol
returns-in-Ok-clause-symbol c = rw c.in-DataMatrix.is (is_data_matrix c.in-DataMatrix.lead c.in-DataMatrix.shape c.args.src.now c.in-Ok.symbol c.in-Ok.ensures.symbol)

pub returns-in-Err-clause-refused : goal.returns-in-Err-clause-refused
unfolding matrix_refusal
returns-in-Err-clause-refused c = rw c.in-DataMatrix.is c.in-Err.ensures.refused

pub returns-in-Ok-encode-clause-accepted : goal.returns-in-Ok-encode-clause-accepted
unfolding matrix_refusal
returns-in-Ok-encode-clause-accepted c = rw c.in-Aztec.is (ap (fault_of aztec_fault) c.in-Ok-encode.ensures.accepted)

pub returns-in-Ok-encode-clause-symbol : goal.returns-in-Ok-encode-clause-symbol
returns-in-Ok-encode-clause-symbol c = rw c.in-Aztec.is (is_aztec c.in-Aztec.asked c.args.src.now c.in-Ok-encode.symbol c.in-Ok-encode.ensures.symbol)

pub returns-in-Err-encode-clause-refused : goal.returns-in-Err-encode-clause-refused
unfolding matrix_refusal
returns-in-Err-encode-clause-refused c = rw (c.in-Aztec.is, c.aztec_fault.ensures) (ap (fault_of aztec_fault) c.in-Err-encode.ensures.refused)

pub returns-in-Ok-encode-2-clause-accepted : goal.returns-in-Ok-encode-2-clause-accepted
unfolding matrix_refusal
returns-in-Ok-encode-2-clause-accepted c = rw c.in-Pdf417.is (ap (fault_of pdf417_fault) c.in-Ok-encode-2.ensures.accepted)

pub returns-in-Ok-encode-2-clause-symbol : goal.returns-in-Ok-encode-2-clause-symbol
returns-in-Ok-encode-2-clause-symbol c = rw c.in-Pdf417.is (is_pdf417 c.in-Pdf417.asked c.args.src.now c.in-Ok-encode-2.symbol c.in-Ok-encode-2.ensures.symbol)

pub returns-in-Err-encode-2-clause-refused : goal.returns-in-Err-encode-2-clause-refused
unfolding matrix_refusal
returns-in-Err-encode-2-clause-refused c = rw (c.in-Pdf417.is, c.pdf417_fault.ensures) (ap (fault_of pdf417_fault) c.in-Err-encode-2.ensures.refused)
