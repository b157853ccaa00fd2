use Rattle.tda_schema.proofs.PartTests.{tests_decide}
use Rattle.tda_schema.proofs.reader.read_schema.Goals as goal

pub returns-in_err-document-clause-tests : goal.returns-in_err-document-clause-tests
returns-in_err-document-clause-tests c = tests_decide

pub returns-in_err-raw-clause-tests : goal.returns-in_err-raw-clause-tests
returns-in_err-raw-clause-tests c = tests_decide

pub returns-in_err-look_up-clause-tests : goal.returns-in_err-look_up-clause-tests
returns-in_err-look_up-clause-tests c = tests_decide

pub returns-clause-tests : goal.returns-clause-tests
returns-clause-tests c = tests_decide
