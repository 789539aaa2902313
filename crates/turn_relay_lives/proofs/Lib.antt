mod MappedLemmas
